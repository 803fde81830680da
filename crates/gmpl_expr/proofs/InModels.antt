-- What an iteration of a model comes to, one element after another.
use Rattle.std.proofs.Common.{◌≡◌, ◌∙◌, ℕ, ◌-◌, ◌≤◌, Option, Some, None, List, [], ◌∷◌, length, take, drop, get_or, Result, Ok, ap, refl, sym, subst, arith}
use Rattle.gmpl_syntax.specs.declared.expression.Iteration.{Iteration}
use Rattle.gmpl_resolved.specs.declared.expression.Component.TheFolds.{fold-roll-Indexing}
use Rattle.gmpl_resolved.specs.declared.expression.Component.TheViews.{out-Indexing, roll-Indexing, roll-out-Indexing}
use Rattle.gmpl_resolved.specs.declared.expression.Expr.{Expr}
use Rattle.gmpl_resolved.specs.declared.expression.Entry.{Entry}
use Rattle.gmpl_resolved.specs.declared.expression.Indexing.{Indexing}
use Rattle.gmpl_value.specs.declared.eval_fault.EvalFault.{EvalFault}
use Rattle.gmpl_value.specs.Outcome.{Follows, Gives, then_do}
use Rattle.gmpl_operations.specs.declared.value.Value.{Value}
use Rattle.gmpl_operations.specs.declared.value.Value.TheVariants.{Scalar}
use Rattle.gmpl_operations.specs.Functions.{sliced}
use Rattle.gmpl_operations.specs.Values.{symbol_in}
use Rattle.gmpl_operations.specs.Iterations.{ended}
use Rattle.gmpl_data.specs.declared.tables.LoadedModel.{LoadedModel}
use Rattle.gmpl_meaning.specs.declared.walk.EntryValue.{EntryValue}
use Rattle.gmpl_meaning.specs.Parts.{Bindings, Meant, MeantComponent, MeantEntry, MeantIndexing, MeantLink}
use Rattle.gmpl_meaning.specs.Expressions.{iterated, numbers, substring, component_step, expr_step, entry_step, indexing_step, link_step}
use Rattle.gmpl_meaning.specs.Members.{member}
use Rattle.gmpl_meaning.specs.Walks.{entry_value, walked}
use Rattle.gmpl_expr.specs.At as at
use Rattle.gmpl_expr.specs.OneByOne as one_by_one
use Rattle.gmpl_expr.proofs.OneByOne.{is_iterated}

module _ (model : LoadedModel) (height : ℕ) where
  take_all : {X : Type 0} (entries : List X) → take (length entries) entries ≡ entries
  take_all [] = refl
  take_all (x ∷ xs) = ap (λ l. x ∷ l) (take_all xs)

  -- behind the first entry
  behind_first : {X : Type 0} (entry : X) (entries : List X) → take (length (entry ∷ entries) - 1) (drop 1 (entry ∷ entries)) ≡ entries
  behind_first entry entries =
      let fewer : length (entry ∷ entries) - 1 ≡ length entries = omega arith in
      ap (λ n. take n entries) fewer ∙ take_all entries

  pub first_entry : (iteration : Iteration) (condition : Option Meant) (body : Meant) (entries : List Entry) (entry : Entry) (v : EntryValue) (b : Bindings) (total new : Option Value) (result : Result (Unit {0}) EvalFault)
      → 1 ≤ length entries → entry ≡ get_or entries 0 entry → entry_value (at.entry model height entry) b ≡ Ok v
      → Follows result new (one_by_one.over_tuples iteration condition body (one_by_one.over_entries iteration condition body (at.entries model height (take (length entries - 1) (drop 1 entries)))) b v.pattern v.set total)
      → Follows result new (one_by_one.over_entries iteration condition body (at.entries model height entries) b total)
  first_entry iteration condition body [] entry v b total new result more is value given = absurd (omega arith)
  first_entry iteration condition body (x ∷ xs) entry v b total new result more is value given =
      let at_first : entry_value (at.entry model height x) b ≡ Ok v = subst (λ e. entry_value (at.entry model height e) b ≡ Ok v) is value in
      subst (λ o. Follows result new (then_do (λ w. one_by_one.over_tuples iteration condition body (one_by_one.over_entries iteration condition body (at.entries model height xs)) b w.pattern w.set total) o)) (sym at_first)
      (subst (λ es. Follows result new (one_by_one.over_tuples iteration condition body (one_by_one.over_entries iteration condition body (at.entries model height es)) b v.pattern v.set total)) (behind_first x xs) given)

  -- a text and the numbers behind it
  pub first_text : (arguments : List Expr) (text : Expr) (b : Bindings) (result : Result Value EvalFault) → 1 ≤ length arguments → text ≡ get_or arguments 0 text
      → Gives result (then_do (λ s. then_do (λ ns. then_do (λ t. Ok (Scalar t)) (sliced s ns)) (numbers [] (at.exprs model height (take (length arguments - 1) (drop 1 arguments))) b)) (then_do symbol_in ((at.expr model height text).value b)))
      → Gives result (substring (at.exprs model height arguments) b)
  first_text [] text b result more is given = absurd (omega arith)
  first_text (x ∷ xs) text b result more is given =
      subst (λ t. Gives result (then_do (λ s. then_do (λ ns. then_do (λ u. Ok (Scalar u)) (sliced s ns)) (numbers [] (at.exprs model height xs) b)) (then_do symbol_in ((at.expr model height t).value b)))) is
      (subst (λ ys. Gives result (then_do (λ s. then_do (λ ns. then_do (λ u. Ok (Scalar u)) (sliced s ns)) (numbers [] (at.exprs model height ys) b)) (then_do symbol_in ((at.expr model height text).value b)))) (behind_first x xs) given)

  abbrev meant : List Entry → Option Expr → MeantIndexing
  meant entries condition = record { entries = at.entries model height entries; condition = at.optional model height condition }

  indexing_by : (entries : List Entry) (condition : Option Expr) → at.indexing model height (roll-Indexing (record { entries = entries; condition = condition })) ≡ meant entries condition
  indexing_by entries None = fold-roll-Indexing MeantComponent Meant MeantEntry MeantIndexing MeantLink (component_step model.statements (member model height)) (expr_step model.statements (member model height)) (entry_step model.statements (member model height)) (indexing_step model.statements (member model height)) (link_step model.statements (member model height)) (record { entries = entries; condition = None })
  indexing_by entries (Some x) = fold-roll-Indexing MeantComponent Meant MeantEntry MeantIndexing MeantLink (component_step model.statements (member model height)) (expr_step model.statements (member model height)) (entry_step model.statements (member model height)) (indexing_step model.statements (member model height)) (link_step model.statements (member model height)) (record { entries = entries; condition = Some x })

  indexing_is : (indexing : Indexing) → at.indexing model height indexing ≡ meant (out-Indexing indexing).entries (out-Indexing indexing).condition
  indexing_is indexing = ap (at.indexing model height) (sym (roll-out-Indexing indexing)) ∙ indexing_by (out-Indexing indexing).entries (out-Indexing indexing).condition

  pub iterated_at : (iteration : Iteration) (indexing : Indexing) (body : Meant) (b : Bindings) (entries : List Entry) (result : Result Value EvalFault) → entries ≡ (out-Indexing indexing).entries
      → Gives result (then_do (ended iteration) (one_by_one.over_entries iteration (at.optional model height (out-Indexing indexing).condition) body (at.entries model height entries) b None))
      → Gives result (iterated iteration body b (walked (at.indexing model height indexing) b))
  iterated_at iteration indexing body b entries result is given =
      subst (λ i. Gives result (iterated iteration body b (walked i b))) (sym (indexing_is indexing))
      (subst (Gives result) (is_iterated iteration (meant (out-Indexing indexing).entries (out-Indexing indexing).condition) body b)
      (subst (λ es. Gives result (then_do (ended iteration) (one_by_one.over_entries iteration (at.optional model height (out-Indexing indexing).condition) body (at.entries model height es) b None))) is given))
