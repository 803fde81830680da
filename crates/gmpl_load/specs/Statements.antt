-- The blocks of one parameter and of one set, behind their words (GNU MathProg Language Reference, chapter on model data).
use Rattle.std.specs.Prelude.{ℕ, List}
use Rattle.gmpl_value.specs.declared.symbol.Symbol.{Symbol}
use Rattle.gmpl_data.specs.declared.tables.Given.{Given}
use Rattle.gmpl_blocks.specs.Rules.{Rule, ◌>>=◌, pure}
use Rattle.gmpl_blocks.specs.Parameters.{parameter_block}
use Rattle.gmpl_blocks.specs.Sets.{set_block, subscripts}
use Rattle.gmpl_load.specs.declared.objects.DataObject.{DataObject}
use Rattle.gmpl_load.specs.Objects.{parameter, set}
use Rattle.gmpl_load.specs.Tables.{Tables, at, set_data, emptied, with_set_data}

-- what a parameter's block gives to it
unfoldable pub parameter_given : ℕ → Given → Rule Given
parameter_given dimension given = do
  now ← parameter_block dimension (record { values = given.values; default = given.default })
  pure (record { values = now.values; overfull = given.overfull; default = now.default })

-- N ["default" sym] { .. }* ";"
unfoldable pub parameter_statement : List (List ℕ) → List DataObject → Tables → Rule Tables
parameter_statement names objects tables = do
  found ← parameter names objects
  at found.place (parameter_given found.subscripts) tables

-- what a set's block gives to one of its members
unfoldable pub set_given : ℕ → List Symbol → Given → Rule Given
set_given dimension member given = do
  now ← set_block dimension (set_data given member)
  pure (with_set_data (emptied given member) member now)

-- N ["[" sym { [","] sym }* "]"] { .. }* ";"
unfoldable pub set_statement : List (List ℕ) → List DataObject → Tables → Rule Tables
set_statement names objects tables = do
  found ← set names objects
  member ← subscripts found.subscripts
  at found.place (set_given found.dimension member) tables
