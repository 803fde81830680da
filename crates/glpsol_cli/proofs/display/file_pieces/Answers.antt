use Rattle.std.proofs.Common.{◌≡◌, ◌∙◌, ◌++◌, sym, subst}
use Rattle.std.proofs.lemmas.List.{append-nil}
use Rattle.gmpl_generate.specs.Running.{files_of}
use Rattle.glpsol_cli.specs.Meaning.{file_pieces}
use Rattle.glpsol_cli.specs.Stages.{pieces_of}
use Rattle.glpsol_cli.proofs.Follow.{none_left}
use Rattle.glpsol_cli.proofs.display.file_pieces.Goals as goal

pub returns : goal.returns
returns c =
    let made = pieces_of c.loop-file.pieces.items in
    let none = none_left c.loop-file.file-iterator c.next.new.self c.next.result c.in-None.is c.next.ensures.steps c.loop-file.invariant.left in
    sym (append-nil made) ∙ subst (λ fs. made ++ file_pieces (files_of fs) ≡ file_pieces (files_of c.args.files.items)) none c.loop-file.invariant.whole
