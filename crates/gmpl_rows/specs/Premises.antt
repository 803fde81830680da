-- What makes the names of columns and of rows differ.
use Rattle.std.specs.Prelude.{ℕ, ◌≡◌, ◌<◌, true, List, [], ◌∷◌, length, map}
use Rattle.std.specs.List.{AllByRecursion, list_all}
use Rattle.gmpl_member_names.specs.Names.{is_name_byte}
use Rattle.gmpl_rows.specs.declared.declared.Declared.{Declared}
use Rattle.gmpl_rows.specs.declared.draft.RowHead.{RowHead}

-- no two of a list are the same
abbrev pub AreDifferent : {X : Type 0} → List X → Type 0
AreDifferent [] = Unit {0}
AreDifferent (x ∷ xs) = AllByRecursion (λ y. x ≡ y → ⊥) xs × AreDifferent xs

abbrev pub declared_name : Declared → List ℕ
declared_name v = v.name

-- letters, digits and underscores
abbrev pub IsName : List ℕ → Type 0
IsName name = list_all is_name_byte name ≡ true

-- the objects of a model have names, of which no two are the same
pub record AreObjects (vs : List Declared) : Type 0 where
  pub names : AllByRecursion IsName (map declared_name vs)
  pub differ : AreDifferent (map declared_name vs)

-- the rows come from statements that are there
abbrev pub AreDeclared : List Declared → List RowHead → Type 0
AreDeclared vs hs = AllByRecursion (λ (h : RowHead). h.statement < length vs) hs
