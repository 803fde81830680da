use Rattle.std.proofs.Common.{◌∙◌, sym}
use Rattle.cert_check.proofs.Laws.{coefficient_found, coefficient_none}
use Rattle.exact_ranges.proofs.forms.coefficient.Goals as goal

pub returns-in-None : goal.returns-in-None
returns-in-None c = c.zero.ensures ∙ sym (coefficient_none c.args.form.now c.args.column (sym c.entry_at.ensures ∙ c.in-None.is))

pub returns-in-Some : goal.returns-in-Some
returns-in-Some c = sym (coefficient_found c.args.form.now c.args.column c.in-Some.coefficient c.requires (sym c.entry_at.ensures ∙ c.in-Some.is))
