use Rattle.std.proofs.Common.{rules, sym, subst}
use Rattle.std.proofs.lemmas.List.{with_items_is, places}
use Rattle.basis.specs.Dictionary.{IsResting, IsDictionary}
use Rattle.dictionary.specs.Table.{Table, dictionary_of}
use Rattle.dictionary.proofs.TableFlip.{made_flip, made_flip_dictionary}
use Rattle.dictionary.proofs.dictionary.Dictionary.flip.Goals as goal

pub invariant_of-self : goal.invariant_of-self
invariant_of-self c =
    let t : Table = record { places = c.self.inside.places.items; positions = c.self.inside.positions.items; rows = c.self.inside.rows.items; gains = c.self.inside.gains } in
    rw (with_items_is c.self.inside.places c.exchange.new.places (search (rules, places)))
    (made_flip t c.args.q c.args.place c.exchange.new.places (search rules) c.self.invariant
    (let P : Table → Type 0 = λ u. IsResting u.places c.args.q in subst P (sym c.self.view_is) c.requires.rests) c.requires.stops)

pub returns-clause-dictionary : goal.returns-clause-dictionary
returns-clause-dictionary c = λ s h.
    (let t : Table = record { places = c.self.inside.places.items; positions = c.self.inside.positions.items; rows = c.self.inside.rows.items; gains = c.self.inside.gains } in
    let rests = (let P : Table → Type 0 = λ u. IsResting u.places c.args.q in subst P (sym c.self.view_is) c.requires.rests) in
    let old = (let P : Table → Type 0 = λ u. IsDictionary s u.places (dictionary_of u) in subst P (sym c.self.view_is) h) in
    rw (with_items_is c.self.inside.places c.exchange.new.places (search (rules, places)))
    (made_flip_dictionary t c.args.q c.args.place c.exchange.new.places s (search rules) c.self.invariant rests c.requires.stops
    (c.flips.ensures s t.places (dictionary_of t) c.args.q c.args.place old rests c.requires.stops)))
