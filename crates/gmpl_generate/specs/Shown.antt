-- The texts of values that are shown: a symbol as in the name of a member, a set with its elements between braces.
use Rattle.std.specs.Prelude.{ℕ, codes, Ok, Err, List, [], ◌∷◌, ◌++◌}
use Rattle.gmpl_value.specs.declared.symbol.Symbol.{Symbol}
use Rattle.gmpl_value.specs.Sets.{Elements as Set}
use Rattle.gmpl_member_names.specs.Names as names
use Rattle.gmpl_value.specs.declared.eval_fault.EvalFault.TheVariants.{NotANumber}
use Rattle.gmpl_value.specs.Outcome.{Outcome}
use Rattle.gmpl_operations.specs.declared.value.Value.{Value}
use Rattle.gmpl_operations.specs.declared.value.Value.TheVariants.{Scalar, Elements}

abbrev pub symbol_text : Symbol → List ℕ
symbol_text s = names.symbol_text s

-- the components behind the first
abbrev pub components_text : List Symbol → List ℕ
components_text [] = codes ")"
components_text (s ∷ ss) = codes "," ++ (symbol_text s ++ components_text ss)

-- an element of several components stands in parentheses
abbrev pub element_text : List Symbol → List ℕ
element_text [] = codes "()"
element_text (s ∷ []) = symbol_text s
element_text (s ∷ t ∷ ss) = codes "(" ++ (symbol_text s ++ components_text (t ∷ ss))

-- the elements behind the first
abbrev pub further_text : Set → List ℕ
further_text [] = codes "}"
further_text (t ∷ ts) = codes ", " ++ (element_text t ++ further_text ts)

abbrev pub set_text : Set → List ℕ
set_text [] = codes "{}"
set_text (t ∷ ts) = codes "{" ++ (element_text t ++ further_text ts)

-- no other value is shown
abbrev pub shown : Value → Outcome (List ℕ)
shown (Scalar s) = Ok (symbol_text s)
shown (Elements set) = Ok (set_text set)
shown _ = Err NotANumber
