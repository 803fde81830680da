use Rattle.std.proofs.Common.{◌∙◌, [], Result, Ok, Err, OnOk}
use Rattle.outside.proofs.store.write_file.Goals as goal

at_ok : {T E P : Type 0} (r : Result T E) → P → OnOk r P
at_ok (Ok x) p = p
at_ok (Err e) p = tt

pub returns-clause-all : goal.returns-clause-all
returns-clause-all g c = λ before told.
    let made = c.in_ok-file.ensures.made before told in
    at_ok c.finish-finished.result (c.finish-finished.ensures.told _ ∙ c.in_ok-written.ensures.all _ [] made.1 made.0)
