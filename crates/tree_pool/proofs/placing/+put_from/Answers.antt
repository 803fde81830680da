use Rattle.std.proofs.Common.{◌≡◌, ◌∙◌, suc, ◌+◌, [], ◌∷◌, ◌++◌, set, length, length-append, refl, sym, ap, subst, arith}
use Rattle.std.specs.Vec.{vec_len}
use Rattle.search_tree.specs.Tree.{made}
use Rattle.search_tree.specs.Slots.{slots_of}
use Rattle.tree_pool.specs.declared.refs.NodeRef.TheVariants.{Again, Forked}
use Rattle.tree_pool.specs.Placed.{Begins, forked_at, paths_with, refs_with}
use Rattle.tree_pool.proofs.Placed.{begins_within, both_counts, both_forked, has_sides, is_leaf}
use Rattle.tree_pool.proofs.placing.+put_from.Goals as goal

pub after-next-requires : goal.after-next-requires
after-next-requires t c = begins_within c.args.slots.now c.args.n c.requires.room.0 c.requires.room.1

pub fork-requires-clause-room : goal.fork-requires-clause-room
fork-requires-clause-room t c =
    let sides = has_sides c.args.slots.now c.args.n c.in-Some.split c.requires.room.0 c.requires.room.1 (sym c.split_at.ensures ∙ c.in-Some.is) in
    let many = ap made sides.is in
    let room = c.requires.room.2 in
    omega (arith, many, room)

pub fork-requires-in-Some-clause-room : goal.fork-requires-in-Some-clause-room
fork-requires-in-Some-clause-room t c =
    let sides = has_sides c.args.slots.now c.args.n c.in-Some.split c.requires.room.0 c.requires.room.1 (sym c.split_at.ensures ∙ c.in-Some.is) in
    let many = ap made sides.is in
    let room = c.requires.room.3 in
    omega (arith, many, room)

pub put_from-behind-requires : goal.put_from-behind-requires
put_from-behind-requires t c =
    let slots = c.args.slots.now in
    let refs = c.args.nodes.now.items in
    let news = c.fork.new.nodes.items in
    let sides = has_sides slots c.args.n c.in-Some.split c.requires.room.0 c.requires.room.1 (sym c.split_at.ensures ∙ c.in-Some.is) in
    let within = begins_within slots c.args.n c.requires.room.0 c.requires.room.1 in
    let next = c.after-next.ensures in
    let many = ap made sides.is in
    let both = both_forked c.args.entry c.args.n c.args.place c.in-Some.split refs news c.args.paths.now.all c.fork-in-Some.new.self.all c.fork.ensures.nodes c.fork-in-Some.ensures.all c.requires.each in
    let old : vec_len c.args.nodes.now ≡ length refs = c.args.nodes.now.ok.0 in
    let new : vec_len c.fork.new.nodes ≡ length news = c.fork.new.nodes.ok.0 in
    let low : c.len-low.result ≡ length refs = c.len-low.ensures ∙ old in
    let count = both.0 in
    let room = c.requires.room.2 in
    let same_room = c.fork.ensures.room in
    let paths_room = c.requires.room.3 in
    let less_room = c.fork-in-Some.ensures.room in (
      omega (arith, within, next),
      (
        (sides.low, subst (λ m. Begins slots m sides.low) (sym next) sides.low_begins, omega (arith, many, old, new, count, room, same_room), omega (arith, many, paths_room, less_room)),
        (omega (arith, low, count), both.1),
      ),
    )

pub put_from-requires : goal.put_from-requires
put_from-requires t c =
    let slots = c.args.slots.now in
    let refs = c.args.nodes.now.items in
    let news = c.fork.new.nodes.items in
    let sides = has_sides slots c.args.n c.in-Some.split c.requires.room.0 c.requires.room.1 (sym c.split_at.ensures ∙ c.in-Some.is) in
    let within = begins_within slots c.args.n c.requires.room.0 c.requires.room.1 in
    let next = c.after-next.ensures in
    let many = ap made sides.is in
    let both = both_forked c.args.entry c.args.n c.args.place c.in-Some.split refs news c.args.paths.now.all c.fork-in-Some.new.self.all c.fork.ensures.nodes c.fork-in-Some.ensures.all c.requires.each in
    let old : vec_len c.args.nodes.now ≡ length refs = c.args.nodes.now.ok.0 in
    let last : vec_len c.put_from-behind.new.nodes ≡ length c.put_from-behind.new.nodes.items = c.put_from-behind.new.nodes.ok.0 in
    let low : c.len-low.result ≡ length refs = c.len-low.ensures ∙ old in
    let begins = subst (λ m. Begins slots m sides.low) (sym next) sides.low_begins in
    let behind = c.put_from-behind.ensures.behind sides.low begins in
    let counts = both_counts c.args.entry c.after-next.result c.len-low.result sides.low news c.put_from-behind.new.nodes.items c.fork-in-Some.new.self.all c.put_from-behind.new.paths.all
    (c.put_from-behind.ensures.nodes sides.low begins) (c.put_from-behind.ensures.paths sides.low begins) both.1 in
    let room_then = c.put_from-behind.ensures.room sides.low begins in
    let same_then = room_then.0 in
    let less_then = room_then.1 in
    let count = both.0 in
    let count_then = counts.0 in
    let room = c.requires.room.2 in
    let same_room = c.fork.ensures.room in
    let paths_room = c.requires.room.3 in
    let less_room = c.fork-in-Some.ensures.room in (
      omega (arith, within, next, behind),
      (
        (
          sides.high,
          subst (λ m. Begins slots m sides.high) (sym (behind ∙ ap (λ m. m + length (slots_of sides.low)) next)) sides.high_begins,
          omega (arith, many, old, last, count, count_then, room, same_room, same_then),
          omega (arith, many, paths_room, less_room, less_then),
        ),
        (omega (arith, low, count, count_then), counts.1),
      ),
    )

pub returns-in-None-clause-nodes : goal.returns-in-None-clause-nodes
returns-in-None-clause-nodes t c = λ u begins.
    let leaf = is_leaf c.args.slots.now c.args.n u begins (sym c.split_at.ensures ∙ c.in-None.is) in
    ap (λ v. refs_with c.args.entry c.args.n c.args.place v c.args.nodes.now.items) (sym leaf.1)

pub returns-in-None-clause-paths : goal.returns-in-None-clause-paths
returns-in-None-clause-paths t c = λ u begins.
    let leaf = is_leaf c.args.slots.now c.args.n u begins (sym c.split_at.ensures ∙ c.in-None.is) in
    ap (λ v. paths_with c.args.place v c.args.paths.now.all) (sym leaf.1)

pub returns-in-None-clause-room : goal.returns-in-None-clause-room
returns-in-None-clause-room t c = λ u begins.
    let leaf = is_leaf c.args.slots.now c.args.n u begins (sym c.split_at.ensures ∙ c.in-None.is) in
    let none = ap made leaf.1 in
    (refl, omega (arith, none))

pub returns-in-None-clause-behind : goal.returns-in-None-clause-behind
returns-in-None-clause-behind t c = λ u begins.
    let leaf = is_leaf c.args.slots.now c.args.n u begins (sym c.split_at.ensures ∙ c.in-None.is) in
    let next = c.after-next.ensures in
    let one = ap (λ v. length (slots_of v)) leaf.1 in
    omega (arith, next, one)

pub returns-in-Some-clause-nodes : goal.returns-in-Some-clause-nodes
returns-in-Some-clause-nodes t c = λ u begins.
    let slots = c.args.slots.now in
    let refs = c.args.nodes.now.items in
    let entry = c.args.entry in
    let sides = has_sides slots c.args.n c.in-Some.split u begins (sym c.split_at.ensures ∙ c.in-Some.is) in
    let next = c.after-next.ensures in
    let low : c.len-low.result ≡ length refs = c.len-low.ensures ∙ c.args.nodes.now.ok.0 in
    let high : c.len-low.result + 1 ≡ suc (length refs) = omega (arith, low) in
    let low_begins = subst (λ m. Begins slots m sides.low) (sym next) sides.low_begins in
    let behind : c.put_from-behind.result ≡ suc c.args.n + length (slots_of sides.low) = c.put_from-behind.ensures.behind sides.low low_begins ∙ ap (λ m. m + length (slots_of sides.low)) next in
    let lows : c.put_from-behind.new.nodes.items ≡ refs_with entry (suc c.args.n) (length refs) sides.low (set refs c.args.place (Forked entry c.args.n (length refs)) ++ Again ∷ Again ∷ []) =
    c.put_from-behind.ensures.nodes sides.low low_begins ∙ ap (λ m. refs_with entry m c.len-low.result sides.low c.fork.new.nodes.items) next
    ∙ ap (λ p. refs_with entry (suc c.args.n) p sides.low c.fork.new.nodes.items) low ∙ ap (refs_with entry (suc c.args.n) (length refs) sides.low) c.fork.ensures.nodes in
    c.put_from.ensures.nodes sides.high (subst (λ m. Begins slots m sides.high) (sym behind) sides.high_begins)
    ∙ ap (λ m. refs_with entry m (c.len-low.result + 1) sides.high c.put_from-behind.new.nodes.items) behind
    ∙ ap (λ p. refs_with entry (suc c.args.n + length (slots_of sides.low)) p sides.high c.put_from-behind.new.nodes.items) high
    ∙ ap (refs_with entry (suc c.args.n + length (slots_of sides.low)) (suc (length refs)) sides.high) lows ∙ ap (λ v. refs_with entry c.args.n c.args.place v refs) (sym sides.is)

pub returns-in-Some-clause-paths : goal.returns-in-Some-clause-paths
returns-in-Some-clause-paths t c = λ u begins.
    let slots = c.args.slots.now in
    let refs = c.args.nodes.now.items in
    let paths = c.args.paths.now.all in
    let sides = has_sides slots c.args.n c.in-Some.split u begins (sym c.split_at.ensures ∙ c.in-Some.is) in
    let next = c.after-next.ensures in
    let low : c.len-low.result ≡ length paths = c.len-low.ensures ∙ c.args.nodes.now.ok.0 ∙ sym c.requires.each in
    let high : c.len-low.result + 1 ≡ suc (length paths) = omega (arith, low) in
    let low_begins = subst (λ m. Begins slots m sides.low) (sym next) sides.low_begins in
    let behind : c.put_from-behind.result ≡ suc c.args.n + length (slots_of sides.low) = c.put_from-behind.ensures.behind sides.low low_begins ∙ ap (λ m. m + length (slots_of sides.low)) next in
    let lows : c.put_from-behind.new.paths.all ≡ paths_with (length paths) sides.low (forked_at c.args.place c.in-Some.split paths) =
    c.put_from-behind.ensures.paths sides.low low_begins ∙ ap (λ p. paths_with p sides.low c.fork-in-Some.new.self.all) low ∙ ap (paths_with (length paths) sides.low) c.fork-in-Some.ensures.all in
    c.put_from.ensures.paths sides.high (subst (λ m. Begins slots m sides.high) (sym behind) sides.high_begins)
    ∙ ap (λ p. paths_with p sides.high c.put_from-behind.new.paths.all) high ∙ ap (paths_with (suc (length paths)) sides.high) lows ∙ ap (λ v. paths_with c.args.place v paths) (sym sides.is)

pub returns-in-Some-clause-room : goal.returns-in-Some-clause-room
returns-in-Some-clause-room t c = λ u begins.
    let slots = c.args.slots.now in
    let sides = has_sides slots c.args.n c.in-Some.split u begins (sym c.split_at.ensures ∙ c.in-Some.is) in
    let next = c.after-next.ensures in
    let low_begins = subst (λ m. Begins slots m sides.low) (sym next) sides.low_begins in
    let behind : c.put_from-behind.result ≡ suc c.args.n + length (slots_of sides.low) = c.put_from-behind.ensures.behind sides.low low_begins ∙ ap (λ m. m + length (slots_of sides.low)) next in
    let first = c.put_from-behind.ensures.room sides.low low_begins in
    let second = c.put_from.ensures.room sides.high (subst (λ m. Begins slots m sides.high) (sym behind) sides.high_begins) in
    let many = ap made sides.is in
    let less = c.fork-in-Some.ensures.room in
    let less_low = first.1 in
    let less_high = second.1 in
    (second.0 ∙ first.0 ∙ c.fork.ensures.room, omega (arith, many, less, less_low, less_high))

pub returns-in-Some-clause-behind : goal.returns-in-Some-clause-behind
returns-in-Some-clause-behind t c = λ u begins.
    let slots = c.args.slots.now in
    let sides = has_sides slots c.args.n c.in-Some.split u begins (sym c.split_at.ensures ∙ c.in-Some.is) in
    let next = c.after-next.ensures in
    let low_begins = subst (λ m. Begins slots m sides.low) (sym next) sides.low_begins in
    let behind : c.put_from-behind.result ≡ suc c.args.n + length (slots_of sides.low) = c.put_from-behind.ensures.behind sides.low low_begins ∙ ap (λ m. m + length (slots_of sides.low)) next in
    let last = c.put_from.ensures.behind sides.high (subst (λ m. Begins slots m sides.high) (sym behind) sides.high_begins) in
    let both = length-append (slots_of sides.low) (slots_of sides.high) in
    let whole = ap (λ v. length (slots_of v)) sides.is in
    omega (arith, behind, last, both, whole)
