-- What the words and the files give, by what was told of the files at the start.
use Rattle.std.proofs.Common.{◌≡◌, ◌∙◌, ◌<◌, ◌+◌, ℕ, suc, List, [], ◌∷◌, ◌++◌, length, map, take, drop, get_or, Some, None, Option, refl, sym, ap, subst, arith}
use Rattle.std.proofs.lemmas.List.{drop_more, length-map, map_push, take-append-drop, take_more}
use Rattle.outside.specs.declared.store.LoadFault.{LoadFault}
use Rattle.outside.specs.declared.store.LoadFault.TheVariants.{Missing, Open, Read, TooLong, NoMemory as LoadNoMemory}
use Rattle.command_line.specs.Meaning.{settings_of}
use Rattle.command_line.specs.declared.settings.Settings.{Settings}
use Rattle.command_line.specs.declared.settings.WordsFault.{WordsFault}
use Rattle.glpsol_cli.specs.Asked.{ToldNames, IsTextOf, IsTextFrom, AreTexts, IsSourceThere, AreThere, sources_of, names_checked}
use Rattle.glpsol_cli.specs.Stages.{IsUnread, IsStopFrom, IsStopAmong, IsStop}
use Rattle.glpsol_cli.specs.declared.stop.Stop.{Stop}
use Rattle.glpsol_cli.specs.declared.stop.Stop.TheVariants.{Words, File, NoMemory as StopNoMemory}

-- ---- names and texts by their places

pub at_source : (sources : List (Option (List ℕ))) (i : ℕ) (source : Option (List ℕ)) → i < length sources → source ≡ get_or sources i source → sources ≡ take i sources ++ source ∷ drop (i + 1) sources
at_source sources i source within is = sym (take-append-drop i sources) ∙ ap (λ ys. take i sources ++ ys) (drop_more sources i source within ∙ ap (λ n. n ∷ drop (i + 1) sources) (sym is))

-- ---- texts that were read

source_there : (told : ToldNames) (source : Option (List ℕ)) (text : List ℕ) → IsTextFrom told source text → IsSourceThere told source
source_there told None text h = tt
source_there told (Some name) text h = h.there

pub there : (told : ToldNames) (sources : List (Option (List ℕ))) (texts : List (List ℕ)) → AreTexts told sources texts → AreThere told sources
there told [] texts h = tt
there told (source ∷ sources) [] h = absurd h
there told (source ∷ sources) (text ∷ texts) h = (source_there told source text h.0, there told sources texts h.1)

pub one_more : (told : ToldNames) (sources : List (Option (List ℕ))) (texts : List (List ℕ)) (source : Option (List ℕ)) (text : List ℕ) → AreTexts told sources texts → IsTextFrom told source text → AreTexts told (sources ++ source ∷ []) (texts ++ text ∷ [])
one_more told [] [] source text h is = (is, tt)
one_more told [] (other ∷ texts) source text h is = absurd h
one_more told (other ∷ sources) [] source text h is = absurd h
one_more told (other ∷ sources) (first ∷ texts) source text h is = (h.0, one_more told sources texts source text h.1 is)

told_from : (told told' : ToldNames) → ((other : List ℕ) → told' other ≡ told other) → (source : Option (List ℕ)) (text : List ℕ) → IsTextFrom told' source text → IsTextFrom told source text
told_from told told' same None text h = h
told_from told told' same (Some name) text h = subst (λ t. IsTextOf t text) (same name) h

-- with the text of the next source
pub next_text : {X : Type 0} (f : X → List ℕ) (told told' : ToldNames) (sources : List (Option (List ℕ))) (i : ℕ) (source : Option (List ℕ)) (xs ys : List X) (x : X) → i < length sources → source ≡ get_or sources i source
    → ((other : List ℕ) → told' other ≡ told other) → ys ≡ xs ++ x ∷ [] → AreTexts told (take i sources) (map f xs) → IsTextFrom told' source (f x) → AreTexts told (take (i + 1) sources) (map f ys)
next_text f told told' sources i source xs ys x within is same e h text =
    subst (λ zs. AreTexts told (take (i + 1) sources) (map f zs)) (sym e)
    (subst (λ ns. AreTexts told ns (map f (xs ++ x ∷ []))) (sym (take_more sources i source within ∙ ap (λ n. take i sources ++ n ∷ []) (sym is)))
    (subst (λ ts. AreTexts told (take i sources ++ source ∷ []) ts) (sym (map_push f xs x))
    (one_more told (take i sources) (map f xs) source (f x) h (told_from told told' same source (f x) text))))

pub as_many : (told : ToldNames) (sources : List (Option (List ℕ))) (texts : List (List ℕ)) → AreTexts told sources texts → length texts ≡ length sources
as_many told [] [] h = refl
as_many told [] (text ∷ texts) h = absurd h
as_many told (source ∷ sources) [] h = absurd h
as_many told (source ∷ sources) (text ∷ texts) h = ap suc (as_many told sources texts h.1)

at_least : (names more : List (List ℕ)) → length names < suc (length (map Some (names ++ more)))
at_least [] more = omega arith
at_least (name ∷ names) more = let k = at_least names more in omega (arith, k)

pub many_sources : (s : Settings) → length (sources_of s) ≡ suc (length (s.data_files ++ names_checked s.task))
many_sources s = ap suc (length-map (s.data_files ++ names_checked s.task) Some)

-- there is a text for the model and for each data file
pub enough : (told : ToldNames) (s : Settings) (texts : List (List ℕ)) → AreTexts told (sources_of s) texts → length s.data_files < length texts
enough told s texts h = subst (λ n. length s.data_files < n) (sym (as_many told (sources_of s) texts h)) (at_least s.data_files (names_checked s.task))

-- ---- files that are not read

pub unread_within : (told told' : Option (Option (List ℕ))) (rose rose' : Type 0) → told' ≡ told → (rose → rose') → (fault : LoadFault) → IsUnread told' rose fault → IsUnread told rose' fault
unread_within told told' rose rose' same f Missing h = λ text has. h text (same ∙ has)
unread_within told told' rose rose' same f Open h = f h
unread_within told told' rose rose' same f Read h = (λ lacks. h.0 (same ∙ lacks), f h.1)
unread_within told told' rose rose' same f TooLong h = (λ lacks. h.0 (same ∙ lacks), λ text has. h.1 text (same ∙ has))
unread_within told told' rose rose' same f LoadNoMemory h = tt

-- the stop at a file is one among the sources, of which those before it were read
pub among : (told told' : ToldNames) (rose rose' : Type 0) (sources before after : List (Option (List ℕ))) (source : Option (List ℕ)) (stop : Stop) → ((other : List ℕ) → told' other ≡ told other) → (rose → rose')
    → sources ≡ before ++ source ∷ after → AreThere told before → IsStopFrom source told' rose stop → IsStopAmong sources told rose' stop
among told told' rose rose' sources before after source (Words fault) same f is were h = absurd (no_words source fault h)
  where
    no_words : (source : Option (List ℕ)) (fault : WordsFault) → IsStopFrom source told' rose (Words fault) → ⊥
    no_words None fault h = h
    no_words (Some name) fault h = h
among told told' rose rose' sources before after source StopNoMemory same f is were h = tt
among told told' rose rose' sources before after None (File u) same f is were h = absurd h
among told told' rose rose' sources before after (Some name) (File u) same f is were h = record {
  before = before;
  after = after;
  is = subst (λ n. sources ≡ before ++ Some n ∷ after) (sym h.0) is;
  there = were;
  unread = unread_within (told u.name) (told' u.name) rose rose' (same u.name) f u.fault h.1;
}

-- a stop among all names that are read
pub in_turn : (words : List (List ℕ)) (told : ToldNames) (rose : Type 0) (s : Settings) (stop : Stop) → settings_of words ≡ Some s → IsStopAmong (sources_of s) told rose stop → IsStop words told rose stop
in_turn words told rose s (Words fault) asks h = absurd h
in_turn words told rose s StopNoMemory asks h = tt
in_turn words told rose s (File u) asks h = (record { settings = s; asks = asks; before = h.before; after = h.after; is = h.is; there = h.there }, h.unread)
