-- What data have given to the objects so far, by their places.
use Rattle.std.specs.Prelude.{ℕ, zero, suc, Bool, true, false, List, [], ◌∷◌, set, slice_get, Option, Some, None, Result, Ok, Err}
use Rattle.gmpl_value.specs.declared.symbol.Symbol.{Symbol}
use Rattle.gmpl_value.specs.declared.fault.SetFault.{SetFault}
use Rattle.gmpl_value.specs.Sets.{Elements as ElementList, is_member, with_element}
use Rattle.gmpl_members.specs.declared.value.Value.{Value}
use Rattle.gmpl_members.specs.declared.value.Value.TheVariants.{Elements}
use Rattle.gmpl_members.specs.Table.{value_of, with_value}
use Rattle.gmpl_data.specs.declared.tables.Given.{Given}
use Rattle.gmpl_blocks.specs.declared.fault.DataFaultKind.{DataFaultKind}
use Rattle.gmpl_blocks.specs.declared.fault.DataFaultKind.TheVariants.{Unknown}
use Rattle.gmpl_blocks.specs.Rules.{Rule, ◌>>=◌, pure, fault}
use Rattle.gmpl_blocks.specs.declared.sets.SetData.{SetData}
use Rattle.gmpl_load.specs.declared.tables.Taken.{Taken}

abbrev pub Tables : Type 0
Tables = List Given

-- what is given to an object before any data
abbrev pub nothing : Given
nothing = record { values = []; overfull = []; default = None }

abbrev pub nothing_for : ℕ → Tables
nothing_for zero = []
nothing_for (suc n) = nothing ∷ nothing_for n

-- ---- one object

-- what a rule gives to the object at a place
abbrev pub given_by : ℕ → (Given → Rule Given) → Tables → Option Given → Rule Tables
given_by place rule tables None = fault Unknown
given_by place rule tables (Some given) = rule given >>= (λ more. pure (set tables place more))

abbrev pub at : ℕ → (Given → Rule Given) → Tables → Rule Tables
at place rule tables = given_by place rule tables (slice_get tables place)

-- the same of what is given without a token
abbrev pub changed : ℕ → Tables → Result Given DataFaultKind → Result Tables DataFaultKind
changed place tables (Err kind) = Err kind
changed place tables (Ok more) = Ok (set tables place more)

abbrev pub changed_by : ℕ → (Given → Result Given DataFaultKind) → Tables → Option Given → Result Tables DataFaultKind
changed_by place change tables None = Err Unknown
changed_by place change tables (Some given) = changed place tables (change given)

abbrev pub change_at : ℕ → (Given → Result Given DataFaultKind) → Tables → Result Tables DataFaultKind
change_at place change tables = changed_by place change tables (slice_get tables place)

-- ---- a member of a set

abbrev pub elements_of : Option Value → ElementList
elements_of (Some (Elements elements)) = elements
elements_of _ = []

-- what blocks so far give to the member of a set
abbrev pub set_data : Given → List Symbol → SetData
set_data given subscripts = record { elements = elements_of (value_of given.values subscripts); is_overfull = is_member given.overfull subscripts }

-- the set without the elements of its member, while a block gives more to it
abbrev pub emptied : Given → List Symbol → Given
emptied given subscripts = record { values = with_value given.values subscripts (Elements []); overfull = given.overfull; default = given.default }

abbrev pub taken : Given → List Symbol → Taken
taken given subscripts = record { before = set_data given subscripts; left = emptied given subscripts }

abbrev pub added : ElementList → Result ElementList SetFault → ElementList
added before (Ok more) = more
added before (Err fault) = before

abbrev pub noted : Bool → ElementList → List Symbol → ElementList
noted false overfull subscripts = overfull
noted true overfull subscripts = added overfull (with_element overfull subscripts)

-- with what they give to it now
abbrev pub with_set_data : Given → List Symbol → SetData → Given
with_set_data given subscripts now = record {
  values = with_value given.values subscripts (Elements now.elements);
  overfull = noted now.is_overfull given.overfull subscripts;
  default = given.default;
}
