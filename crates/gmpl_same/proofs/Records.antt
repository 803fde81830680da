-- Indexing expressions are the same where their parts are.
use Rattle.std.proofs.Common.{◌≡◌, ◌∙◌, sym}
use Rattle.gmpl_resolved.specs.declared.expression.Indexing.{Indexing}
use Rattle.gmpl_resolved.specs.declared.expression.Component.TheViews.{out-Indexing, roll-Indexing, roll-out-Indexing}

pub same_parts : (a b : Indexing) → (out-Indexing b).entries ≡ (out-Indexing a).entries → (out-Indexing b).condition ≡ (out-Indexing a).condition → b ≡ a
same_parts a b entries condition =
    sym (roll-out-Indexing b) ∙ (λ j. roll-Indexing (record { entries = entries j; condition = condition j })) ∙ roll-out-Indexing a
