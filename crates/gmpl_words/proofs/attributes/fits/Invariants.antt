use Rattle.std.proofs.Common.{◌≡◌, drop}
use Rattle.gmpl_words.specs.Attributes.{fits}
use Rattle.gmpl_words.proofs.attributes.fits.Given as goal

abbrev pub invariant-loop-old : goal.invariant-loop-old
invariant-loop-old l = fits l.declared l.found l.new ≡ fits l.declared (drop l.old-index l.found) l.new
