-- The objects of a model to which data may be given (GNU MathProg Language Reference, chapter on model data).
use Rattle.std.specs.Prelude.{ℕ, Bool, List, slice_get, Option, Some, None, Result, Ok, Err, if◌then◌else◌}
use Rattle.std.specs.List.{position}
use Rattle.model_text.specs.Names.{is_name}
use Rattle.gmpl_token.specs.declared.kind.TokenKind.{TokenKind}
use Rattle.gmpl_token.specs.declared.kind.TokenKind.TheVariants as k
use Rattle.gmpl_blocks.specs.declared.fault.DataFaultKind.{DataFaultKind}
use Rattle.gmpl_blocks.specs.declared.fault.DataFaultKind.TheVariants.{Unknown, HasExpression}
use Rattle.gmpl_blocks.specs.Rules.{Rule, ◌>>=◌, refuse, judged, peek, take_token}
use Rattle.gmpl_load.specs.declared.objects.DataSort.{DataSort}
use Rattle.gmpl_load.specs.declared.objects.DataSort.TheVariants as sorts
use Rattle.gmpl_load.specs.declared.objects.DataObject.{DataObject}
use Rattle.gmpl_load.specs.declared.objects.ParameterPlace.{ParameterPlace}
use Rattle.gmpl_load.specs.declared.objects.SetPlace.{SetPlace}

-- ---- parameters

-- a parameter has no expression where data are given to it
abbrev pub parameter_of : ℕ → DataSort → ℕ → Bool → Result ParameterPlace DataFaultKind
parameter_of place sorts.Parameter subscripts has_expression = if has_expression then Err HasExpression else Ok (record { place = place; subscripts = subscripts })
parameter_of place _ subscripts has_expression = Err Unknown

abbrev pub parameter_in : ℕ → Option DataObject → Result ParameterPlace DataFaultKind
parameter_in place None = Err Unknown
parameter_in place (Some object) = parameter_of place object.sort object.subscripts object.has_expression

abbrev pub parameter_at : List DataObject → Option ℕ → Result ParameterPlace DataFaultKind
parameter_at objects None = Err Unknown
parameter_at objects (Some place) = parameter_in place (slice_get objects place)

-- the parameter of this name
unfoldable pub parameter_named : List (List ℕ) → List DataObject → List ℕ → Result ParameterPlace DataFaultKind
parameter_named names objects name = parameter_at objects (position (is_name name) names)

abbrev pub parameter_by : List (List ℕ) → List DataObject → Option TokenKind → Rule ParameterPlace
parameter_by names objects (Some k.Name) = take_token >>= (λ name. judged (parameter_named names objects name))
parameter_by names objects _ = refuse

-- the parameter that the next name means; names are bare
unfoldable pub parameter : List (List ℕ) → List DataObject → Rule ParameterPlace
parameter names objects = peek >>= parameter_by names objects

-- ---- sets

abbrev pub set_of : ℕ → DataSort → ℕ → Bool → Result SetPlace DataFaultKind
set_of place (sorts.Set dimension) subscripts has_expression = if has_expression then Err HasExpression else Ok (record { place = place; subscripts = subscripts; dimension = dimension })
set_of place _ subscripts has_expression = Err Unknown

abbrev pub set_in : ℕ → Option DataObject → Result SetPlace DataFaultKind
set_in place None = Err Unknown
set_in place (Some object) = set_of place object.sort object.subscripts object.has_expression

abbrev pub set_at : List DataObject → Option ℕ → Result SetPlace DataFaultKind
set_at objects None = Err Unknown
set_at objects (Some place) = set_in place (slice_get objects place)

-- the set of this name
unfoldable pub set_named : List (List ℕ) → List DataObject → List ℕ → Result SetPlace DataFaultKind
set_named names objects name = set_at objects (position (is_name name) names)

abbrev pub set_by : List (List ℕ) → List DataObject → Option TokenKind → Rule SetPlace
set_by names objects (Some k.Name) = take_token >>= (λ name. judged (set_named names objects name))
set_by names objects _ = refuse

-- the set that the next name means
unfoldable pub set : List (List ℕ) → List DataObject → Rule SetPlace
set names objects = peek >>= set_by names objects
