use Rattle.std.proofs.Common.{◌≡◌, ◌∙◌, List, [], ◌∷◌, ◌++◌, Bool, true, sym, ap, subst}
use mathlib.Core.Path.{ap₂}
use Rattle.verdicts.specs.Certificate.{TreeNode}
use Rattle.certificate.specs.Values.{node_of}
use Rattle.partial_certificate.specs.Partial.{PartialNode, Todo}
use Rattle.partial_certificate.specs.Marks.{marked, AreMarks}
use Rattle.partial_certificate.proofs.Marking.{marked_more, todo_marks}
use Rattle.partial_certificate.proofs.tree.PartialTree.push_todo.Goals as goal

pub invariant_of-self-2 : goal.invariant_of-self-2
invariant_of-self-2 c =
    let marks = c.self.inside.marks.items in
    let nodes = c.self.inside.tree in
    let node = node_of c.stand_in.result in
    let longer : c.push_reserved.new.self.items ≡ marks ++ true ∷ [] = c.push_reserved.ensures.items ∙ ap (λ (xs : List Bool). xs ++ true ∷ []) c.reserve.ensures.items in
    let grown : c.push.new.self ≡ nodes ++ node ∷ [] = c.in_ok-push.ensures.ok in
    subst (λ (xs : List Bool). AreMarks xs c.push.new.self) (sym longer) (subst (λ (ns : List TreeNode). AreMarks (marks ++ true ∷ []) ns) (sym grown) (todo_marks marks nodes node c.stand_in.ensures c.self.invariant))

pub returns-clause-ok : goal.returns-clause-ok
returns-clause-ok c =
    let marks = c.self.inside.marks.items in
    let nodes = c.self.inside.tree in
    let node = node_of c.stand_in.result in
    let longer : c.push_reserved.new.self.items ≡ marks ++ true ∷ [] = c.push_reserved.ensures.items ∙ ap (λ (xs : List Bool). xs ++ true ∷ []) c.reserve.ensures.items in
    let grown : c.push.new.self ≡ nodes ++ node ∷ [] = c.in_ok-push.ensures.ok in
    ap₂ marked longer grown ∙ marked_more marks nodes true node c.self.invariant ∙ ap (λ (xs : List PartialNode). xs ++ Todo ∷ []) c.self.view_is
