-- The names of what statements declare.
use Rattle.std.proofs.Common.{◌≡◌, ℕ, List, [], ◌∷◌, map, Ok, Result, refl, subst}
use Rattle.gmpl_token.specs.Token.{Tokens}
use Rattle.gmpl_lexer.specs.Tokens.{tokens_of}
use Rattle.gmpl_syntax.specs.declared.fault.SyntaxFault.{SyntaxFault}
use Rattle.gmpl_parse.specs.Models.{parsed}
use Rattle.gmpl_parse.specs.declared.model.Model.{Model as Parsed}
use Rattle.gmpl_resolved.specs.declared.statement.Numbered.{Numbered}
use Rattle.gmpl_resolved.specs.declared.statement.Statement.{Statement}
use Rattle.gmpl_resolved.specs.declared.statement.Statement.TheVariants as s
use Rattle.gmpl_rows.specs.declared.declared.Declared.{Declared}
use Rattle.gmpl_rows.specs.Premises.{AreObjects, declared_name}
use Rattle.gmpl_load.specs.Tables.{Tables}
use Rattle.gmpl_generate.specs.Problem.{all_declared, declared_at, declared_by}
use Rattle.gmpl_reader.specs.Names.{names_of, head_of}
use Rattle.gmpl_reader.specs.MathProg.{loaded, model_in}

same_name : (x : Statement) → declared_name (declared_by x) ≡ (head_of x).name
same_name (s.Set d) = refl
same_name (s.Param d) = refl
same_name (s.Var d) = refl
same_name (s.Constraint c) = refl
same_name (s.Objective o) = refl

pub names_are_heads : (xs : List Numbered) → map declared_name (map declared_at xs) ≡ names_of xs
names_are_heads [] = refl
names_are_heads (x ∷ xs) = rw (same_name x.statement, names_are_heads xs) refl

-- a law of models that are read from texts
abbrev NamesObjects : Type 0
NamesObjects =
    (text : List ℕ) (model : Parsed) (objects : List Declared) → parsed (tokens_of text) ≡ Ok model → map declared_name objects ≡ names_of model.statements → AreObjects objects

module _ (text : List ℕ) (tokens : Tokens) (is : tokens ≡ tokens_of text) where
  -- what is asked of the objects of a model, where it is read from a text
  pub are_objects : (model : Parsed) → NamesObjects → parsed tokens ≡ Ok model → (tables : Tables) → AreObjects (all_declared (loaded model tables))
  are_objects model law read tables = law text model (all_declared (loaded model tables)) (subst (λ ts. parsed ts ≡ Ok model) is read) (names_are_heads model.statements)

  pub is_model : (r : Result Parsed SyntaxFault) → parsed tokens ≡ r → model_in text ≡ r
  unfolding model_in
  is_model r read = subst (λ ts. parsed ts ≡ r) is read
