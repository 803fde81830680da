-- Fields that are UTF-8, and records of such fields.
use Rattle.std.proofs.Common.{◌≡◌, ◌<◌, ◌≤◌, ◌+◌, ◌&&◌, ℕ, zero, suc, Some, None, true, false, List, [], ◌∷◌, ◌++◌, length, drop, get_or, refl, sym, ap, ◌∙◌, inl, inr}
use Rattle.std.specs.Prelude.{Result, Ok, Err, IsErrAnd}
use Rattle.std.specs.Str.{IsUtf8, is_utf8}
use Rattle.std.specs.List.{list_all}
use Rattle.std.proofs.lemmas.Bool.{cases_Bool}
use Rattle.std.proofs.lemmas.List.{append-nil, drop_all, drop_more}
use Rattle.std.proofs.lemmas.Str.{IsUtf8-from_is_utf8, is_utf8-from_IsUtf8}
use Rattle.std.proofs.lemmas.Option.{same_Some}
use Rattle.csv.specs.Records.{field_at}
use Rattle.csv_tables.specs.Outcome.{GivesAs}
use Rattle.csv_tables.proofs.Results.{handed_on}
use Rattle.csv_tables.specs.Reading.{text_of, texts_of}
use Rattle.csv_tables.specs.declared.fault.TableError.{TableError}
use Rattle.csv_tables.specs.declared.fault.TableError.TheVariants.{Fault, NoMemory}
use Rattle.csv_tables.specs.declared.fault.TableFault.{TableFault}
use Rattle.csv_tables.specs.declared.fault.TableFault.TheVariants.{BadRecord}

pub text-good : (field : List ℕ) → IsUtf8 field → text_of field ≡ Ok field
text-good field good = rw (is_utf8-from_IsUtf8 field good) refl

pub text-bad : (field : List ℕ) → (IsUtf8 field → ⊥) → text_of field ≡ Err BadRecord
text-bad field bad = elim (cases_Bool (is_utf8 field)) [ inl good ↦ absurd (bad (IsUtf8-from_is_utf8 field good)) | inr none ↦ rw none refl ]

bad-text : (field : List ℕ) (why : TableFault) → text_of field ≡ Err why → (is_utf8 field ≡ false) × (why ≡ BadRecord)
bad-text field why e = elim (cases_Bool (is_utf8 field)) [
  | inl good ↦ let same = rw good at e in cc same
  | inr none ↦ let same = rw none at e in (none, cc same)
]

-- the texts so far, and the fields from a place on
abbrev pub AreTexts : List (List ℕ) → List (List ℕ) → ℕ → Type 0
AreTexts done fields place = (done ++ drop place fields ≡ fields) × (list_all is_utf8 fields ≡ list_all is_utf8 (drop place fields))

pub one-bad-text : (done fields : List (List ℕ)) (place : ℕ) (why : TableFault) → place < length fields → text_of (get_or fields place []) ≡ Err why
    → AreTexts done fields place → texts_of fields ≡ Err why
unfolding texts_of
one-bad-text done fields place why within e (are, all) =
    let bad = bad-text (get_or fields place []) why e in
    let none : list_all is_utf8 fields ≡ false = all ∙ ap (list_all is_utf8) (drop_more fields place [] within) ∙ ap (λ b. b && list_all is_utf8 (drop (place + 1) fields)) bad.0 in
    rw (none, bad.1) refl

pub all-texts : (done fields : List (List ℕ)) (place : ℕ) → length fields ≤ place → AreTexts done fields place → texts_of fields ≡ Ok done
unfolding texts_of
all-texts done fields place end (are, all) =
    let none = drop_all place fields end in
    let good : list_all is_utf8 fields ≡ true = all ∙ ap (list_all is_utf8) none in
    rw good (ap Ok (sym are ∙ ap (λ (t : List (List ℕ)). done ++ t) none ∙ append-nil done))

-- ---- the field of a record at a place

pub field-there : (fields : List (List ℕ)) (place : ℕ) (field : List ℕ) → field_at fields place ≡ Some field → get_or fields place [] ≡ field
unfolding field_at
field-there [] place field e = cc e
field-there (f ∷ fs) zero field e = same_Some _ _ e
field-there (f ∷ fs) (suc place) field e = field-there fs place field e

pub field-gone : (fields : List (List ℕ)) (place : ℕ) → field_at fields place ≡ None → get_or fields place [] ≡ []
unfolding field_at
field-gone [] place e = refl
field-gone (f ∷ fs) zero e = cc e
field-gone (f ∷ fs) (suc place) e = field-gone fs place e

-- ---- a fault that is handed on

-- a text that is not UTF-8 is handed on as the fault of the record
pub bad-texts : {A : Type 0} (view : A → List (List ℕ)) (r : Result A TableError) (done fields : List (List ℕ)) (place : ℕ) (error : TableError)
    → IsErrAnd r (λ e. e ≡ error) → place < length fields → GivesAs (λ (t : List ℕ). t) (Err error) (text_of (get_or fields place [])) → AreTexts done fields place
    → GivesAs view r (texts_of fields)
bad-texts view r done fields place (Fault why) same within e are = handed_on view r (Fault why) _ same (one-bad-text done fields place why within e are)
bad-texts view r done fields place NoMemory same within e are = handed_on view r NoMemory _ same tt
