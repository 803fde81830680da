use Rattle.std.proofs.Common.{◌≡◌, ◌∙◌, ◌∷◌, [], ◌++◌, ap}
use Rattle.search_tree.specs.declared.leaf.Slot.TheVariants as slot
use Rattle.search_tree.specs.Tree.{Divided}
use Rattle.search_tree.specs.Slots.{slots_of}
use Rattle.search_tree.proofs.Slots.{of_sides, one_tree, tree_from}
use Rattle.search_tree.proofs.subtree.Subtree.divided.Goals as goal

pub invariant_of-result : goal.invariant_of-result
invariant_of-result c =
    let lows = c.low.inside.slots.items in
    let highs = c.high.inside.slots.items in
    let whole : c.append-2.new.self.items ≡ slots_of (Divided c.args.split c.args.low c.args.high) = c.in_ok-append-2.ensures.items
    ∙ ap (λ xs. xs ++ highs) (c.in_ok-append.ensures.items ∙ ap (λ xs. xs ++ lows) (c.push_reserved.ensures.items ∙ ap (λ xs. xs ++ slot.Divided c.args.split ∷ []) c.in_ok-slots.ensures.items))
    ∙ of_sides c.args.split c.args.low c.args.high lows highs c.low.invariant c.low.view_is c.high.invariant c.high.view_is in
    one_tree (Divided c.args.split c.args.low c.args.high) c.append-2.new.self.items whole

pub returns : goal.returns
returns c =
    let lows = c.low.inside.slots.items in
    let highs = c.high.inside.slots.items in
    let whole : c.append-2.new.self.items ≡ slots_of (Divided c.args.split c.args.low c.args.high) = c.in_ok-append-2.ensures.items
    ∙ ap (λ xs. xs ++ highs) (c.in_ok-append.ensures.items ∙ ap (λ xs. xs ++ lows) (c.push_reserved.ensures.items ∙ ap (λ xs. xs ++ slot.Divided c.args.split ∷ []) c.in_ok-slots.ensures.items))
    ∙ of_sides c.args.split c.args.low c.args.high lows highs c.low.invariant c.low.view_is c.high.invariant c.high.view_is in
    tree_from (Divided c.args.split c.args.low c.args.high) c.append-2.new.self.items whole
