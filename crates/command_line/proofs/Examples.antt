-- Worked examples: what these words ask for.
use Rattle.std.proofs.Common.{◌≡◌, [], ◌∷◌, false, Some, None, refl}
use Rattle.std.specs.Prelude.{codes}
use Rattle.std.specs.Str.{chars}
use Rattle.std.specs.Char.{encode_utf8}
use Rattle.clap.specs.Faults.{walk_fault, defaults_fault, flags_fault}
use Rattle.clap.specs.Walk.{walked, bundle_met}
use Rattle.command_line.specs.Options.{command, is_taken, given}
use Rattle.command_line.specs.Meaning.{settings_of}
use Rattle.command_line.specs.declared.settings.Language.TheVariants.{MathProg, FreeMps}
use Rattle.command_line.specs.declared.settings.Settings.{Settings}
use Rattle.command_line.specs.declared.settings.Task.TheVariants.{Solve}

abbrev pub plain_settings : Settings
plain_settings = record { language = FreeMps; model = Some (codes "model"); data_files = []; display = None; direction = None; relaxed = false; split_limit = 10000; pivot_limit = 100000; workers = 1; task = Solve (record { report = None; solution = None; certificate = None; subset = false; row_splits = false; cuts = false; ranges = None; summary = false }) }

pub plain_words : settings_of (codes "--freemps" ∷ codes "model" ∷ []) ≡ Some plain_settings
unfolding is_taken given command walk_fault walked defaults_fault
plain_words = refl

-- `-y` names the file of what is displayed, and stands with MathProg alone
display_words : settings_of (codes "-m" ∷ codes "model" ∷ codes "-y" ∷ codes "file" ∷ []) ≡ Some (record plain_settings { language = MathProg; display = Some (codes "file") })
unfolding is_taken given command walk_fault walked defaults_fault flags_fault bundle_met chars encode_utf8
display_words = refl

display_refused : settings_of (codes "--freemps" ∷ codes "model" ∷ codes "-y" ∷ codes "file" ∷ []) ≡ None
unfolding is_taken given command walk_fault walked defaults_fault flags_fault bundle_met chars encode_utf8
display_refused = refl
