-- What data give, by parts that are lent.
use Rattle.std.proofs.Common.{◌≡◌, ◌∙◌, ◌+◌, ◌≤◌, ◌<◌, ℕ, Bool, true, false, List, [], ◌∷◌, ◌++◌, None, Result, drop, get_or, length, refl, sym, ap, subst, arith}
use Rattle.std.specs.List.{AllByRecursion, list_any}
use Rattle.std.proofs.lemmas.List.{drop_all, drop_more}
use Rattle.std.proofs.lemmas.Slice.Eq.{bytes_eq-Decides}
use Rattle.gmpl_lexer.specs.DataTokens.{data_tokens, tokens_from}
use Rattle.model_text.specs.Names.{is_name}
use Rattle.gmpl_rows.specs.Premises.{AreDifferent}
use Rattle.gmpl_token.specs.Token.{Tokens}
use Rattle.gmpl_resolved.specs.declared.statement.Numbered.{Numbered}
use Rattle.gmpl_kinds.specs.declared.shape.Object.{Object}
use Rattle.gmpl_parse.specs.declared.model.Model.{Model as Parsed}
use Rattle.gmpl_reader.specs.Names.{names_of, object_name}
use Rattle.gmpl_blocks.specs.declared.fault.DataFault.{DataFault}
use Rattle.gmpl_load.specs.declared.objects.DataObject.{DataObject}
use Rattle.gmpl_load.specs.declared.texts.DataSource.{DataSource}
use Rattle.gmpl_load.specs.Tables.{Tables}
use Rattle.gmpl_load.specs.Texts.{all_tables}
use Rattle.gmpl_reader.specs.Data.{data_objects, given_by}

pub is_given : (model : Parsed) (names : List (List ℕ)) (objects : List DataObject) (source : DataSource) (texts : List Tokens) (r : Result Tables DataFault)
    → names ≡ names_of model.statements → objects ≡ data_objects model.statements model.objects
    → all_tables names objects source texts ≡ r → given_by model source texts ≡ r
unfolding given_by
is_given model names objects source texts r e f h = rw (sym e, sym f) h

pub same_objects : (ss ts : List Numbered) (os us : List Object) → ss ≡ ts → os ≡ us → data_objects ss os ≡ data_objects ts us
same_objects ss ts os us e f = rw (sym e, sym f) refl_objects
  where
    refl_objects : data_objects ss os ≡ data_objects ss os
    refl_objects = refl

-- ---- behind the end of a text

nothing_left : (at line : ℕ) (rest : List ℕ) → rest ≡ [] → tokens_from at line 0 rest ≡ record { items = []; fault = None }
unfolding tokens_from
nothing_left at line [] is = refl
nothing_left at line (b ∷ bs) is = absurd cc

pub past_end : (text : List ℕ) (at : ℕ) → length text ≤ at → data_tokens (at + 1) text ≡ record { items = []; fault = None }
past_end text at past = nothing_left _ _ (drop (at + 1) text) (drop_all (at + 1) text (omega (arith, past)))

-- ---- names of which no two are the same

holds_at : {X : Type 0} (P : X → Type 0) (xs : List X) (y : X) (ys : List X) → AllByRecursion P (xs ++ y ∷ ys) → P y
holds_at P [] y ys all = all.0
holds_at P (x ∷ xs) y ys all = holds_at P xs y ys all.1

not_true : (b : Bool) → (b ≡ true → ⊥) → b ≡ false
not_true true never = absurd (never refl)
not_true false never = refl

-- a name is none of those before it
pub is_new : (names : List (List ℕ)) (name : List ℕ) (more : List (List ℕ)) → AreDifferent (names ++ name ∷ more) → list_any (is_name name) names ≡ false
is_new [] name more differ = refl
is_new (n ∷ names) name more differ =
    let other : is_name name n ≡ false = not_true (is_name name n) (λ same. holds_at (λ y. n ≡ y → ⊥) names name more differ.0 ((bytes_eq-Decides n name).0 same)) in
    rw (other, is_new names name more differ.1) refl

-- that of a statement is none of those of the statements before it
pub is_new_at : (xs : List Numbered) (names : List (List ℕ)) (i : ℕ) (x : Numbered) → AreDifferent (names_of xs) → names_of xs ≡ names ++ names_of (drop i xs) → i < length xs → x ≡ get_or xs i x → list_any (is_name (object_name x)) names ≡ false
is_new_at xs names i x differ here within is =
    let next : drop i xs ≡ x ∷ drop (i + 1) xs = drop_more xs i x within ∙ ap (λ y. y ∷ drop (i + 1) xs) (sym is) in
    is_new names (object_name x) (names_of (drop (i + 1) xs)) (subst AreDifferent (here ∙ ap (λ (ys : List Numbered). names ++ names_of ys) next) differ)
