-- What is loaded of the whole is what is loaded from here.
use Rattle.std.proofs.Common.{◌≡◌, drop}
use Rattle.gmpl_load.specs.Texts.{all_data, texts}
use Rattle.gmpl_load.proofs.texts.all_data.Given as goal

abbrev pub invariant-loop-found : goal.invariant-loop-found
invariant-loop-found l = all_data l.names l.objects l.source l.texts ≡ texts l.names l.objects l.source (drop l.found-index l.texts) l.loaded
