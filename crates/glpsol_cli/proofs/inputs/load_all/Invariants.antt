use Rattle.std.proofs.Common.{◌≡◌, ◌≤◌, ℕ, List, map, take}
use Rattle.glpsol_cli.specs.Asked.{AreTexts}
use Rattle.glpsol_cli.proofs.inputs.load_all.Given as goal

-- the texts from the sources so far are read, and what is told is as it was
abbrev pub invariant-loop-source : goal.invariant-loop-source
invariant-loop-source g l = record {
  texts : AreTexts (g.S.Store.told l.initial.files) (take l.source-index l.sources) (map (λ text. text.items) l.texts.items);
  told : (other : List ℕ) → g.S.Store.told l.files other ≡ g.S.Store.told l.initial.files other;
  later : g.S.Store.faults l.initial.files ≤ g.S.Store.faults l.files;
}
