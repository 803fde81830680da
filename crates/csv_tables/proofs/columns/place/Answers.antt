-- The first text that is the name.
use Rattle.std.proofs.Common.{◌≡◌, ◌∙◌, ℕ, List, Bor, rules, tests}
use Rattle.std.specs.List.{position}
use Rattle.std.specs.Str.{bytes_eq}
use Rattle.std.proofs.lemmas.Iterator.{YieldsList-from_slice}
use Rattle.std.proofs.lemmas.Iterator.Search.{position_from_yields_List}
use Rattle.csv_tables.proofs.Places.{position_seen}
use Rattle.csv_tables.proofs.columns.place.Goals as goal

pub returns : goal.returns
returns c =
    let found : c.position.result ≡ position (λ (t : Bor (List ℕ)). bytes_eq c.args.name.now t.now) c.args.header.now =
    position_from_yields_List (λ (t : Bor (List ℕ)). bytes_eq c.args.name.now t.now) _ _ c.position.result c.position.ensures.ran (YieldsList-from_slice _ c.iter.ensures.rest) (λ x b q k. search (rules, tests)) in
    found ∙ position_seen (λ (t : Bor (List ℕ)). t.now) (bytes_eq c.args.name.now) c.args.header.now
