-- A token is read by the one that comes next, whatever comes after that one.
use Rattle.std.proofs.Common.{◌≡◌, ◌∙◌, ℕ, ◌+◌, ◌<◌, List, [], ◌∷◌, ◌++◌, length, drop, get_or, Result, Ok, Err, refl, sym, ap, arith}
use Rattle.std.proofs.lemmas.List.{drop_more, length-drop}
use Rattle.model_text.specs.declared.fault.FileFault.{FileFault}
use Rattle.model_text.specs.declared.profile.Profile.{Profile}
use Rattle.model_text.specs.declared.error.ReadError.{ReadError}
use Rattle.model_text.specs.declared.error.ReadError.TheVariants.{Fault, NoMemory}
use Rattle.model_text.specs.Follows.{Follows}
use Rattle.model_text.specs.Steps.{then_do}
use Rattle.cplex_lp_tokens.specs.declared.token.TokenKind.{TokenKind}
use Rattle.cplex_lp_tokens.specs.declared.token.TokenKind.TheVariants.{SectionWords, Word, Literal, Plus, Minus}
use Rattle.cplex_lp_tokens.specs.Tokens.{Token}
use Rattle.cplex_lp_draft.specs.declared.expecting.Sign.{Sign}
use Rattle.cplex_lp_draft.specs.declared.expecting.Sign.TheVariants.{Unsigned}
use Rattle.cplex_lp_draft.specs.declared.expecting.TermPart.{TermPart}
use Rattle.cplex_lp_draft.specs.declared.expecting.TermPart.TheVariants.{Begun, Factor, Done}
use Rattle.cplex_lp_draft.specs.declared.expecting.Expecting.{Expecting}
use Rattle.cplex_lp_draft.specs.declared.expecting.Expecting.TheVariants as expecting
use Rattle.cplex_lp_draft.specs.Declaration.{Declaration}
use Rattle.cplex_lp_reader.specs.Objective.{objective_begun, in_objective, at_objective_start}
use Rattle.cplex_lp_reader.specs.Constraints.{at_row_start}
use Rattle.cplex_lp_reader.specs.CplexLp.{in_section, by_kind, with_token, declared_from}
use Rattle.cplex_lp_reader.specs.Ahead.{GoesOn}

module _ (profile : Profile) (d : Declaration) (t next : Token) (rest more : List Token) where
  abbrev some : List Token
  some = next ∷ rest

  abbrev all : List Token
  all = next ∷ (rest ++ more)

  begun-ahead : (k : TokenKind) (sign : Sign) → objective_begun k profile d sign t all ≡ objective_begun k profile d sign t some
  begun-ahead Plus sign = refl
  begun-ahead Minus sign = refl
  begun-ahead Literal sign = refl
  begun-ahead Word sign = refl
  begun-ahead k sign = refl

  part-ahead : (p : TermPart) → in_objective p profile d t all ≡ in_objective p profile d t some
  part-ahead (Begun sign) = begun-ahead t.kind sign
  part-ahead (Factor v) = refl
  part-ahead Done = refl

  row-ahead : (k : TokenKind) → at_row_start k profile d t all ≡ at_row_start k profile d t some
  row-ahead Word = refl
  row-ahead Plus = refl
  row-ahead Minus = refl
  row-ahead Literal = refl
  row-ahead k = refl

  start-ahead : at_objective_start profile d t all ≡ at_objective_start profile d t some
  start-ahead = rw (begun-ahead t.kind Unsigned) refl

  section-ahead : (e : Expecting) → in_section e profile d t all ≡ in_section e profile d t some
  section-ahead expecting.Start = refl
  section-ahead expecting.ObjectiveStart = start-ahead
  section-ahead expecting.ObjectiveColon = refl
  section-ahead (expecting.Objective p) = part-ahead p
  section-ahead expecting.RowStart = row-ahead t.kind
  section-ahead expecting.RowColon = refl
  section-ahead (expecting.RowFirst sign) = refl
  section-ahead (expecting.RowNumber v) = refl
  section-ahead (expecting.RowTerms p) = refl
  section-ahead (expecting.RowRight relation sign) = refl
  section-ahead expecting.BoundStart = refl
  section-ahead (expecting.BoundLeft sign) = refl
  section-ahead (expecting.BoundRelation limit) = refl
  section-ahead (expecting.BoundName limit relation) = refl
  section-ahead (expecting.BoundNamed column) = refl
  section-ahead (expecting.BoundCompared column) = refl
  section-ahead (expecting.BoundRight column relation sign) = refl
  section-ahead expecting.Generals = refl
  section-ahead expecting.Binaries = refl
  section-ahead expecting.Ended = refl

  kind-ahead : (k : TokenKind) → by_kind k profile d t all ≡ by_kind k profile d t some
  kind-ahead (SectionWords section) = refl
  kind-ahead k = section-ahead d.expecting

  pub ahead : with_token profile d t all ≡ with_token profile d t some
  ahead = rw (kind-ahead t.kind) refl

-- ---- a token of some, with others behind them

ahead-of : (profile : Profile) (d : Declaration) (t : Token) (some more : List Token) → 0 < length some → with_token profile d t (some ++ more) ≡ with_token profile d t some
ahead-of profile d t [] more h = absurd (omega arith)
ahead-of profile d t (next ∷ rest) more h = ahead profile d t next rest more

next-token : (profile : Profile) (end : ℕ) (d : Declaration) (tokens more : List Token) (i : ℕ) (t : Token) → i + 1 < length tokens → t ≡ get_or tokens i t
    → declared_from profile end d (drop i tokens ++ more) ≡ then_do (λ new. declared_from profile end new (drop (i + 1) tokens ++ more)) (with_token profile d t (drop (i + 1) tokens))
next-token profile end d tokens more i t h is =
    let here : drop i tokens ≡ t ∷ drop (i + 1) tokens = drop_more tokens i t (omega arith) ∙ ap (λ x. x ∷ drop (i + 1) tokens) (sym is) in
    let behind : 0 < length (drop (i + 1) tokens) = omega (arith, length-drop (i + 1) tokens) in
    ap (λ ts. declared_from profile end d (ts ++ more)) here ∙ ap (then_do (λ new. declared_from profile end new (drop (i + 1) tokens ++ more))) (ahead-of profile d t (drop (i + 1) tokens) more behind)

pub token-goes : (profile : Profile) (end : ℕ) (d new : Declaration) (tokens rest more : List Token) (i : ℕ) (t : Token) (whole : Result Declaration FileFault) → i + 1 < length tokens → t ≡ get_or tokens i t → rest ≡ drop (i + 1) tokens
    → with_token profile d t rest ≡ Ok new → whole ≡ declared_from profile end d (drop i tokens ++ more) → whole ≡ declared_from profile end new (drop (i + 1) tokens ++ more)
token-goes profile end d new tokens rest more i t whole h is behind goes same =
    let step : with_token profile d t (drop (i + 1) tokens) ≡ Ok new = rw (← behind) goes in
    same ∙ next-token profile end d tokens more i t h is ∙ ap (then_do (λ later. declared_from profile end later (drop (i + 1) tokens ++ more))) step

pub token-stops : (profile : Profile) (end : ℕ) (d middle : Declaration) (tokens rest more : List Token) (i : ℕ) (t : Token) (error : ReadError FileFault) (whole left : Result Declaration FileFault) → i + 1 < length tokens → t ≡ get_or tokens i t → rest ≡ drop (i + 1) tokens
    → Follows (Err error) middle (with_token profile d t rest) → whole ≡ declared_from profile end d (drop i tokens ++ more) → GoesOn (Err error) whole left
token-stops profile end d middle tokens rest more i t (Fault fault) whole left h is behind stops same =
    let step : with_token profile d t (drop (i + 1) tokens) ≡ Err fault = rw (← behind) stops in
    same ∙ next-token profile end d tokens more i t h is ∙ ap (then_do (λ later. declared_from profile end later (drop (i + 1) tokens ++ more))) step
token-stops profile end d middle tokens rest more i t NoMemory whole left h is behind stops same = tt
