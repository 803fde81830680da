use Rattle.std.proofs.Common.{◌≡◌, ◌<◌, [], ◌∷◌, ℕ, List, length, slice_set, get_or, suc, zero, string_bytes, arith, sym, ap, refl, ◌∙◌}
use Rattle.std.proofs.lemmas.Option.{slice_get_read}
use Rattle.std.specs.Option.{option_map, option_and_then}
use Rattle.outside.specs.Mem.{name_written}
use Rattle.outside.specs.declared.sure_store.Hand.{Hand}
use Rattle.outside.proofs.sure_store.SureStoreStore.read.Goals as goal

same_name : (hands : List Hand) (file : ℕ) (hand : Hand) (other : ℕ) → file < length hands → option_map string_bytes hand.name ≡ name_written hands file → name_written (slice_set hands file hand) other ≡ name_written hands other
same_name [] file hand other within same = refl
same_name (h ∷ hs) zero hand zero within same = same
same_name (h ∷ hs) zero hand (suc other) within same = refl
same_name (h ∷ hs) (suc file) hand zero within same = refl
same_name (h ∷ hs) (suc file) hand (suc other) within same = same_name hs file hand other (omega (arith, within)) same

read_name : (hands : List Hand) (file : ℕ) (hand now : Hand) → file < length hands → now ≡ get_or hands file now → hand.name ≡ now.name → option_map string_bytes hand.name ≡ name_written hands file
read_name hands file hand now within is same = ap (option_map string_bytes) same ∙ sym (ap (option_and_then (λ (h : Hand). option_map string_bytes h.name)) (slice_get_read hands (length hands) file now refl within is))

pub returns-clause-claims : goal.returns-clause-claims
returns-clause-claims c = λ other claimed held.
    let same : name_written (slice_set c.args.self.now.hands.items c.args.file c.take_some.new.hand) other ≡ name_written c.args.self.now.hands.items other =
    same_name c.args.self.now.hands.items c.args.file c.take_some.new.hand other c.requires (read_name c.args.self.now.hands.items c.args.file c.take_some.new.hand c.index_mut-hand.result.now c.requires c.index_mut-hand.ensures.value c.take_some.ensures.name) in
    ((λ p. (sym same ∙ p.0, p.1)), (λ p. (same ∙ p.0, p.1)))
