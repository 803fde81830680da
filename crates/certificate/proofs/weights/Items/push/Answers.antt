use Rattle.std.proofs.Common.{◌≡◌, ◌+◌, ◌≤◌, ◌++◌, ◌∷◌, [], List, sym, subst, IsTrue}
use Rattle.fraction.specs.Fits.{fits}
use Rattle.verdicts.specs.Certificate.{Item}
use Rattle.certificate.specs.Written.{rank_of, next_rank, AreItemsFrom}
use Rattle.certificate.proofs.ItemOrder.{next_rank-snoc, AreItemsFrom-snoc}
use Rattle.certificate.proofs.weights.Items.push.Goals as goal

pub invariant_of-self-2 : goal.invariant_of-self-2
invariant_of-self-2 c =
    let old : List Item = c.self.inside.items.items in
    let item : Item = c.args.item in
    let is : c.push.new.self.items ≡ old ++ item ∷ [] = c.in_ok-push.ensures.items in
    subst (λ (is : List Item). AreItemsFrom 0 is) (sym is) (AreItemsFrom-snoc 0 old item c.self.invariant (record { index = c.requires.index; some = c.requires.some; number = subst (λ (i : Item). IsTrue (fits i.weight)) c.item.view_is c.parts_fit.ensures }) (subst (λ (is : List Item). next_rank 0 is ≤ rank_of item) (sym c.self.view_is) c.requires.order))

pub returns-clause-next : goal.returns-clause-next
returns-clause-next c =
    let old : List Item = c.self.inside.items.items in
    let item : Item = c.args.item in
    let is : c.push.new.self.items ≡ old ++ item ∷ [] = c.in_ok-push.ensures.items in
    subst (λ (is : List Item). next_rank 0 is ≡ rank_of item + 1) (sym is) (next_rank-snoc 0 old item)
