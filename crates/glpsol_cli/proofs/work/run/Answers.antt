use Rattle.glpsol_cli.specs.Pieces.{Outside}
use Rattle.std.proofs.Common.{map, string_bytes, subst}
use Rattle.outside.specs.Causes.{Rose}
use Rattle.glpsol_cli.specs.Cause.{Cause}
use Rattle.glpsol_cli.proofs.Verdicts.{carried, is_best, is_irreducible, is_shown, has_no_point, has_ranges, has_ray}
use Rattle.glpsol_cli.proofs.Completes.{complete}
use Rattle.glpsol_cli.proofs.Limits.{unlimited}
use Rattle.glpsol_cli.proofs.Wanted.{not_plain, not_without}
use Rattle.glpsol_cli.proofs.work.run.Goals as goal
use Rattle.glpsol_cli.proofs.Stories.{of_one_text}

pub returns-clause-optimal : goal.returns-clause-optimal
returns-clause-optimal g c =
    let words = map string_bytes c.args.words.items in
    let told = g.S.Store.told c.args.files.now in
    let files_rose = Rose (g.S.Store.faults c.args.files.now) (g.S.Store.faults c.carried_out.new.files) in
    let out_rose = Rose (g.O.Sink.faults c.args.out.now) (g.O.Sink.faults c.carried_out.new.out) in
    let cause = rw c.deref.ensures.value at c.carried_out.ensures.cause in
    λ d e. is_best words told d c.certificates_are_right.ensures files_rose out_rose (subst (Cause words told files_rose out_rose) e cause)

pub returns-clause-infeasible : goal.returns-clause-infeasible
returns-clause-infeasible g c =
    let words = map string_bytes c.args.words.items in
    let told = g.S.Store.told c.args.files.now in
    let files_rose = Rose (g.S.Store.faults c.args.files.now) (g.S.Store.faults c.carried_out.new.files) in
    let out_rose = Rose (g.O.Sink.faults c.args.out.now) (g.O.Sink.faults c.carried_out.new.out) in
    let cause = rw c.deref.ensures.value at c.carried_out.ensures.cause in
    λ d e. has_no_point words told d c.certificates_are_right.ensures files_rose out_rose (subst (Cause words told files_rose out_rose) e cause)

pub returns-clause-unbounded : goal.returns-clause-unbounded
returns-clause-unbounded g c =
    let words = map string_bytes c.args.words.items in
    let told = g.S.Store.told c.args.files.now in
    let files_rose = Rose (g.S.Store.faults c.args.files.now) (g.S.Store.faults c.carried_out.new.files) in
    let out_rose = Rose (g.O.Sink.faults c.args.out.now) (g.O.Sink.faults c.carried_out.new.out) in
    let cause = rw c.deref.ensures.value at c.carried_out.ensures.cause in
    λ d e. has_ray words told d c.certificates_are_right.ensures files_rose out_rose (subst (Cause words told files_rose out_rose) e cause)

pub returns-clause-carried : goal.returns-clause-carried
returns-clause-carried g c =
    let words = map string_bytes c.args.words.items in
    let told = g.S.Store.told c.args.files.now in
    let files_rose = Rose (g.S.Store.faults c.args.files.now) (g.S.Store.faults c.carried_out.new.files) in
    let out_rose = Rose (g.O.Sink.faults c.args.out.now) (g.O.Sink.faults c.carried_out.new.out) in
    let cause = rw c.deref.ensures.value at c.carried_out.ensures.cause in
    λ d e. carried words told d c.certificates_are_right.ensures files_rose out_rose c.carried_out.result e cause

pub returns-clause-subset : goal.returns-clause-subset
returns-clause-subset g c =
    let words = map string_bytes c.args.words.items in
    let told = g.S.Store.told c.args.files.now in
    let files_rose = Rose (g.S.Store.faults c.args.files.now) (g.S.Store.faults c.carried_out.new.files) in
    let out_rose = Rose (g.O.Sink.faults c.args.out.now) (g.O.Sink.faults c.carried_out.new.out) in
    let cause = rw c.deref.ensures.value at c.carried_out.ensures.cause in
    λ d w e. is_irreducible words told d w c.certificates_are_right.ensures files_rose out_rose c.carried_out.result e cause

pub returns-clause-subset_asked : goal.returns-clause-subset_asked
returns-clause-subset_asked g c =
    let words = map string_bytes c.args.words.items in
    let old : Outside = record { taken = g.O.Sink.taken c.args.out.now; told = g.S.Store.told c.args.files.now } in
    let new : Outside = record { taken = g.O.Sink.taken c.carried_out.new.out; told = g.S.Store.told c.carried_out.new.files } in
    let files_rose = Rose (g.S.Store.faults c.args.files.now) (g.S.Store.faults c.carried_out.new.files) in
    let out_rose = Rose (g.O.Sink.faults c.args.out.now) (g.O.Sink.faults c.carried_out.new.out) in
    let cause = rw c.deref.ensures.value at c.carried_out.ensures.cause in
    let written = rw c.deref.ensures.value at c.carried_out.ensures.written in
    λ s asks wants. not_plain words old new s asks wants files_rose out_rose c.carried_out.result cause written

pub returns-clause-cause : goal.returns-clause-cause
returns-clause-cause g c =
    let words = map string_bytes c.args.words.items in
    let told = g.S.Store.told c.args.files.now in
    let files_rose = Rose (g.S.Store.faults c.args.files.now) (g.S.Store.faults c.carried_out.new.files) in
    let out_rose = Rose (g.O.Sink.faults c.args.out.now) (g.O.Sink.faults c.carried_out.new.out) in
    let cause = rw c.deref.ensures.value at c.carried_out.ensures.cause in
    cause

pub returns-clause-unlimited : goal.returns-clause-unlimited
returns-clause-unlimited g c =
    let words = map string_bytes c.args.words.items in
    let told = g.S.Store.told c.args.files.now in
    let files_rose = Rose (g.S.Store.faults c.args.files.now) (g.S.Store.faults c.carried_out.new.files) in
    let out_rose = Rose (g.O.Sink.faults c.args.out.now) (g.O.Sink.faults c.carried_out.new.out) in
    let cause = rw c.deref.ensures.value at c.carried_out.ensures.cause in
    λ s asks none. unlimited words told s asks none files_rose out_rose c.carried_out.result cause

pub returns-clause-complete : goal.returns-clause-complete
returns-clause-complete g c =
    let words = map string_bytes c.args.words.items in
    let told = g.S.Store.told c.args.files.now in
    let files_rose = Rose (g.S.Store.faults c.args.files.now) (g.S.Store.faults c.carried_out.new.files) in
    let out_rose = Rose (g.O.Sink.faults c.args.out.now) (g.O.Sink.faults c.carried_out.new.out) in
    let cause = rw c.deref.ensures.value at c.carried_out.ensures.cause in
    λ k. complete words told files_rose out_rose k c.carried_out.result cause

pub returns-clause-written : goal.returns-clause-written
returns-clause-written g c = rw c.deref.ensures.value at c.carried_out.ensures.written

pub returns-clause-of_one_text : goal.returns-clause-of_one_text
returns-clause-of_one_text g c =
    let words = map string_bytes c.args.words.items in
    let old : Outside = record { taken = g.O.Sink.taken c.args.out.now; told = g.S.Store.told c.args.files.now } in
    let new : Outside = record { taken = g.O.Sink.taken c.carried_out.new.out; told = g.S.Store.told c.carried_out.new.files } in
    let files_rose = Rose (g.S.Store.faults c.args.files.now) (g.S.Store.faults c.carried_out.new.files) in
    let out_rose = Rose (g.O.Sink.faults c.args.out.now) (g.O.Sink.faults c.carried_out.new.out) in
    let tells = rw c.deref.ensures.value at c.carried_out.ensures.tells in
    of_one_text words old new files_rose out_rose c.certificates_are_right.ensures c.accepted_partials_show.ensures.shows c.carried_out.result tells

pub returns-clause-ranges : goal.returns-clause-ranges
returns-clause-ranges g c =
    let words = map string_bytes c.args.words.items in
    let told = g.S.Store.told c.args.files.now in
    let files_rose = Rose (g.S.Store.faults c.args.files.now) (g.S.Store.faults c.carried_out.new.files) in
    let out_rose = Rose (g.O.Sink.faults c.args.out.now) (g.O.Sink.faults c.carried_out.new.out) in
    let cause = rw c.deref.ensures.value at c.carried_out.ensures.cause in
    λ d r e. has_ranges words told d r c.certificates_are_right.ensures files_rose out_rose c.carried_out.result e cause

pub returns-clause-ranges_asked : goal.returns-clause-ranges_asked
returns-clause-ranges_asked g c =
    let words = map string_bytes c.args.words.items in
    let told = g.S.Store.told c.args.files.now in
    let files_rose = Rose (g.S.Store.faults c.args.files.now) (g.S.Store.faults c.carried_out.new.files) in
    let out_rose = Rose (g.O.Sink.faults c.args.out.now) (g.O.Sink.faults c.carried_out.new.out) in
    let cause = rw c.deref.ensures.value at c.carried_out.ensures.cause in
    λ s asks wants. not_without words told s asks wants files_rose out_rose c.carried_out.result cause

pub returns-clause-undecided : goal.returns-clause-undecided
returns-clause-undecided g c =
    let words = map string_bytes c.args.words.items in
    let told = g.S.Store.told c.args.files.now in
    let files_rose = Rose (g.S.Store.faults c.args.files.now) (g.S.Store.faults c.carried_out.new.files) in
    let out_rose = Rose (g.O.Sink.faults c.args.out.now) (g.O.Sink.faults c.carried_out.new.out) in
    let cause = rw c.deref.ensures.value at c.carried_out.ensures.cause in
    λ d e. is_shown words told d c.accepted_partials_show.ensures.shows files_rose out_rose c.carried_out.result e cause
