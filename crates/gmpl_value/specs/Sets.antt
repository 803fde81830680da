-- Sets of tuples as lists in the order of first insertion, and the operations on them.
use Rattle.std.specs.Prelude.{ℕ, Bool, not, nat_lt, Result, Ok, Err, List, [], ◌∷◌, ◌++◌, length, map, filter, if◌then◌else◌}
use Rattle.std.specs.List.{list_any, list_all, flat_map}
use Rattle.gmpl_value.specs.declared.symbol.Symbol.{Symbol}
use Rattle.gmpl_value.specs.declared.fault.SetFault.{SetFault}
use Rattle.gmpl_value.specs.declared.fault.SetFault.TheVariants.{TooMany}
use Rattle.gmpl_value.specs.Follows.{then_do}
use Rattle.gmpl_value.specs.SymbolEquality.{tuple_eq}

abbrev pub Elements : Type 0
Elements = List (List Symbol)

abbrev pub is_member : Elements → List Symbol → Bool
is_member elements tuple = list_any (tuple_eq tuple) elements

-- each element of the first is one of the second
abbrev pub is_within : Elements → Elements → Bool
is_within first second = list_all (is_member second) first

-- the most elements that a set has
abbrev pub most_elements : ℕ
most_elements = 5000000

-- a new element stands at the end
abbrev pub with_element : Elements → List Symbol → Result Elements SetFault
with_element elements tuple =
    if is_member elements tuple then Ok elements
    else if nat_lt (length elements) most_elements then Ok (elements ++ tuple ∷ [])
    else Err TooMany

-- with each of some tuples in turn
abbrev pub with_all : Elements → List (List Symbol) → Result Elements SetFault
with_all elements [] = Ok elements
with_all elements (t ∷ ts) = then_do (λ more. with_all more ts) (with_element elements t)

-- the set of some tuples, in the order of first insertion
abbrev pub set_of : List (List Symbol) → Result Elements SetFault
set_of = with_all []

abbrev pub common : Elements → Elements → Elements
common first second = filter (is_member second) first

abbrev pub without : Elements → Elements → Elements
without first second = filter (λ t. not (is_member second t)) first

-- the first, then what is new of the second
abbrev pub union_of : Elements → Elements → Result Elements SetFault
union_of first second = set_of (first ++ second)

abbrev pub diff_of : Elements → Elements → Result Elements SetFault
diff_of first second = set_of (without first second)

abbrev pub inter_of : Elements → Elements → Result Elements SetFault
inter_of first second = set_of (common first second)

-- the first without the second, then the second without the first
abbrev pub symdiff_of : Elements → Elements → Result Elements SetFault
symdiff_of first second = set_of (without first second ++ without second first)

abbrev pub joined_with : Elements → List Symbol → List (List Symbol)
joined_with second tuple = map (λ t. tuple ++ t) second

-- each of the first with each of the second, the last place fastest
abbrev pub cross_of : Elements → Elements → Result Elements SetFault
cross_of first second = set_of (flat_map (joined_with second) first)
