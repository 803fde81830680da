-- The texts of a command by what they are, and texts of tables behind them.
use Rattle.std.proofs.Common.{◌≡◌, ◌∙◌, ◌≤◌, ℕ, Bool, true, false, List, [], ◌∷◌, ◌++◌, length, drop, Option, Some, None, refl, sym, ap, subst, arith}
use Rattle.std.proofs.lemmas.List.{append-nil, append_assoc, length-append, length_push, take-append-le, drop-append-le}
use Rattle.std.proofs.lemmas.Slice.Eq.{bytes_eq-Decides}
use Rattle.std.specs.Prelude.{if◌then◌else◌}
use Rattle.std.specs.Str.{bytes_eq}
use Rattle.outside.specs.Told.{Has}
use Rattle.outside.specs.declared.store.LoadFault.{LoadFault}
use Rattle.outside.specs.declared.store.LoadFault.TheVariants.{Missing, Open, Read, TooLong, NoMemory as LoadNoMemory}
use Rattle.command_line.specs.declared.settings.Settings.{Settings}
use Rattle.glpsol_cli.proofs.FilesRead.{many_sources}
use Rattle.glpsol_cli.specs.Asked.{ToldNames, IsTextOf, names_checked, sources_of}
use Rattle.glpsol_cli.specs.Pieces.{Piece, Outside, AllWritten, IsWritten, SameNames, Says, told_behind, told_made, told_written}
use Rattle.glpsol_cli.specs.Meaning.{files_behind, meaning_in, meaning_of}
use Rattle.glpsol_cli.specs.Texts.{AreTables, IsTableText, OfTexts}
use Rattle.glpsol_cli.specs.Stages.{AreInputs, AreParts, AreRead, IsUnread, texts_in}
use Rattle.glpsol_cli.specs.declared.answer.Target.{Target}
use Rattle.glpsol_cli.specs.declared.answer.Target.TheVariants.{Out, File}
use Rattle.glpsol_cli.specs.declared.inputs.Inputs.{Inputs}

some_same : {A : Type 0} {a b : A} → Some a ≡ Some b → a ≡ b
some_same e = cc

none_some : {A : Type 0} {a : A} → None ≡ Some a → ⊥
none_some e = cc

apart : (b : Bool) → b ≡ true → b ≡ false → ⊥
apart b t f = cc

-- ---- what is told of files behind pieces that are written

pub says_as : (told more : ToldNames) → SameNames told more → Says told more
says_as told more same name is h = same name ∙ h

record ToldBefore (text : List ℕ) (t : Option (Option (List ℕ))) (is : Option (List ℕ)) : Type 0 where
  made : Some text ≡ is
  before : Option (List ℕ)
  was : t ≡ Some before

told_before : (text : List ℕ) (t : Option (Option (List ℕ))) (is : Option (List ℕ)) → told_made text t ≡ Some is → ToldBefore text t is
told_before text None is h = absurd (none_some h)
told_before text (Some before) is h = record { made = some_same h; before = before; was = refl }

written_says : (told : ToldNames) (target : Target) (text : List ℕ) (old new : Outside) → Says told old.told → IsWritten target text old new → Says (told_written target text told) new.told
written_says told Out text old new says w name is h = w.1 name ∙ says name is h
written_says told (File made) text old new says w name is h = by (bytes_eq name made) refl h
  where
    by : (b : Bool) → bytes_eq name made ≡ b → (if b then told_made text (told name) else told name) ≡ Some is → new.told name ≡ Some is
    by true e k =
        let same : name ≡ made = (bytes_eq-Decides name made).0 e in
        let before = told_before text (told name) is k in
        let has : Has (new.told made) text = w.1 before.before (says made before.before (subst (λ n. told n ≡ Some before.before) same before.was)) in
        subst (λ n. new.told n ≡ Some is) (sym same) (has ∙ ap Some before.made)
    by false e k = w.2 name (λ same. apart (bytes_eq name made) ((bytes_eq-Decides name made).1 same) e) ∙ says name is k

-- whatever is said of a name behind pieces that are written, is told of it
pub says_behind : (told : ToldNames) (ps : List Piece) (old new : Outside) → Says told old.told → AllWritten ps old new → Says (told_behind told ps) new.told
says_behind told [] old new says all name is h = all.1 name ∙ says name is h
says_behind told (p ∷ ps) old new says all name is h = says_behind (told_written p.target p.text told) ps all.0 new (written_says told p.target p.text old all.0 says all.1) all.2 name is h

-- where less is told

pub text_of_less : (less more : Option (Option (List ℕ))) → ((is : Option (List ℕ)) → less ≡ Some is → more ≡ Some is) → (text : List ℕ) → IsTextOf more text → IsTextOf less text
text_of_less less more f text h = record {
  there = record { there = λ lacks. h.there.there (f None lacks); within = λ has_text has. h.there.within has_text (f (Some has_text) has) };
  short = h.short;
  is = λ bytes has. h.is bytes (f (Some bytes) has);
}

pub unread_of_less : (less more : Option (Option (List ℕ))) → ((is : Option (List ℕ)) → less ≡ Some is → more ≡ Some is) → (rose rose' : Type 0) → (rose → rose') → (fault : LoadFault) → IsUnread more rose fault → IsUnread less rose' fault
unread_of_less less more f rose rose' g Missing h = λ text has. h text (f (Some text) has)
unread_of_less less more f rose rose' g Open h = g h
unread_of_less less more f rose rose' g Read h = (λ lacks. h.0 (f None lacks), g h.1)
unread_of_less less more f rose rose' g TooLong h = (λ lacks. h.0 (f None lacks), λ text has. h.1 text (f (Some text) has))
unread_of_less less more f rose rose' g LoadNoMemory h = tt

-- ---- the parts of all texts

module _ (s : Settings) (texts : List (List ℕ)) (text : List ℕ) (data_texts tables : List (List ℕ)) (h : AreParts s texts text data_texts tables) where
  pub means_of : meaning_of s texts ≡ Some (meaning_in s text data_texts tables)
  means_of = ap (meaning_of s) h.are ∙ ap (λ ds. Some (meaning_in s text ds (drop (files_behind s) h.others))) h.data_are ∙ ap (λ ts. Some (meaning_in s text data_texts ts)) h.tables_are

  pub parts_push : (more : List (List ℕ)) (table : List ℕ) → more ≡ texts ++ table ∷ [] → AreParts s more text data_texts (tables ++ table ∷ [])
  parts_push more table e =
      let long = length_push h.others table in
      let both = length-append s.data_files (names_checked s.task) in
      let within = h.enough in
      record {
        others = h.others ++ table ∷ [];
        are = e ∙ ap (λ ts. ts ++ table ∷ []) h.are;
        enough = omega (arith, long, within);
        data_are = take-append-le (length s.data_files) h.others (table ∷ []) (omega (arith, both, within)) ∙ h.data_are;
        tables_are = drop-append-le (files_behind s) h.others (table ∷ []) h.enough ∙ ap (λ ts. ts ++ table ∷ []) h.tables_are;
      }

  -- there are as many texts as names that are read, or more
  pub enough_read : length (sources_of s) ≤ length texts
  enough_read = let within = h.enough in let many = many_sources s in subst (λ ts. length (sources_of s) ≤ length ts) (sym h.are) (omega (arith, within, many))

-- ---- texts that were read

pub tables_push : (told : ToldNames) (s : Settings) (first tables : List (List ℕ)) (text : List ℕ) → AreTables told s first tables → IsTableText told s (first ++ tables) text → AreTables told s first (tables ++ text ∷ [])
tables_push told s first [] text h is = (subst (λ ts. IsTableText told s ts text) (append-nil first) is, tt)
tables_push told s first (t ∷ ts) text h is = (h.0, tables_push told s (first ++ t ∷ []) ts text h.1 (subst (λ us. IsTableText told s us text) (sym (append_assoc first (t ∷ []) ts)) is))

module _ (words : List (List ℕ)) (told : ToldNames) (s : Settings) (texts : List (List ℕ)) (h : AreRead words told s texts) where
  pub of_read : (P : Settings → List (List ℕ) → Type 0) → P s texts → OfTexts words told P
  of_read P p = record { settings = s; asks = h.asks; texts = h.first; read = h.read; tables = h.tables; tables_read = h.tables_read; has = subst (P s) h.texts_are p }

  pub read_push : (more : List (List ℕ)) (table : List ℕ) → more ≡ texts ++ table ∷ [] → IsTableText told s texts table → AreRead words told s more
  read_push more table e is = record {
    asks = h.asks;
    first = h.first;
    tables = h.tables ++ table ∷ [];
    texts_are = e ∙ ap (λ ts. ts ++ table ∷ []) h.texts_are ∙ append_assoc h.first h.tables (table ∷ []);
    read = h.read;
    tables_read = tables_push told s h.first h.tables table h.tables_read (subst (λ ts. IsTableText told s ts table) h.texts_are is);
  }

pub read_first : (words : List (List ℕ)) (told : ToldNames) (inputs : Inputs) → AreInputs words told inputs → AreRead words told inputs.settings (texts_in inputs)
read_first words told inputs are = record {
  asks = are.asks;
  first = texts_in inputs;
  tables = [];
  texts_are = sym (append-nil (texts_in inputs));
  read = are.read;
  tables_read = tt;
}
