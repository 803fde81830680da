-- Rules take tokens from the left, so that names are names behind them, where they were before.
use Rattle.std.proofs.Common.{ℕ, zero, suc, Bool, true, false, if◌then◌else◌, List, [], ◌∷◌, ◌++◌, length, Option, Some, None, Ok, Err, IfOk}
use Rattle.gmpl_token.specs.declared.kind.TokenKind.{TokenKind}
use Rattle.gmpl_token.specs.declared.kind.TokenKind.TheVariants as k
use Rattle.gmpl_token.specs.Token.{Token}
use Rattle.gmpl_input.specs.Input.{Input, behind, next, sees}
use Rattle.gmpl_input.specs.Rules.{Outcome, Rule, and_then, ◌<$>◌, after, expect, given, optional, further_from, further}
use Rattle.gmpl_reader.proofs.NamedTokens.{AreNamed}

-- the names that are left are names
abbrev pub Kept : Input → Type 0
Kept i = AreNamed i.rest

abbrev pub Left : {A : Type 0} → Outcome A → Type 0
Left outcome = IfOk outcome (λ r. Kept r.1)

-- it leaves such tokens where it finds them
abbrev pub Keeps : {A : Type 0} → Rule A → Type 0
Keeps rule = (i : Input) → Kept i → Left (rule i)

-- ---- one rule behind another

pub then_left : {A B : Type 0} (outcome : Outcome A) (go : A → Rule B) → Left outcome → ((a : A) (j : Input) → Kept j → Left (go a j)) → Left (and_then outcome go)
then_left (Ok r) go h f = f r.0 r.1 h
then_left (Err fault) go h f = tt

pub made_left : {A B : Type 0} (f : A → B) (rule : Rule A) → Keeps rule → Keeps (f <$> rule)
made_left f rule keeps i h = then_left (rule i) _ (keeps i h) (λ _ _ left. left)

-- ---- the next token

behind_named : (tokens : List Token) → AreNamed tokens → AreNamed (behind tokens)
behind_named [] h = tt
behind_named (token ∷ tokens) h = h.1

pub next_kept : (i : Input) → Kept i → Kept (next i)
unfolding next
next_kept i h = behind_named i.rest h

kept_where : (b : Bool) (i j : Input) → Kept i → Kept j → Kept (if b then i else j)
kept_where true i j h g = h
kept_where false i j h g = g

pub after_kept : (wanted : TokenKind) (i : Input) → Kept i → Kept (after wanted i)
unfolding after
after_kept wanted i h = kept_where (sees wanted i) (next i) i (next_kept i h) h

-- ---- either of two rules

pub either_rule : {A : Type 0} (b : Bool) (first second : Rule A) (i : Input) → Left (first i) → Left (second i) → Left ((if b then first else second) i)
either_rule true first second i h g = h
either_rule false first second i h g = g

pub either_left : {A : Type 0} (b : Bool) (first second : Outcome A) → Left first → Left second → Left (if b then first else second)
either_left true first second h g = h
either_left false first second h g = g

pub given_left : {A B : Type 0} (there : Option A) (some : A → Rule B) (none : Rule B) (i : Input) → ((a : A) → Left (some a i)) → Left (none i) → Left (given there some none i)
given_left (Some a) some none i h g = h a
given_left None some none i h g = g

pub expect_keeps : (wanted : TokenKind) → Keeps (expect wanted)
unfolding expect
expect_keeps wanted i h = either_left (sees wanted i) _ _ (next_kept i h) tt

pub optional_keeps : {A : Type 0} (b : Bool) (rule : Rule A) → Keeps rule → Keeps (optional b rule)
optional_keeps true rule keeps i h = made_left (λ a. Some a) rule keeps i h
optional_keeps false rule keeps i h = h

-- ---- lists

pub further_from_keeps : {A : Type 0} (item : Rule A) → Keeps item → (n : ℕ) (found : List A) → Keeps (further_from item n found)
unfolding further_from
further_from_keeps item keeps zero found i h = h
further_from_keeps item keeps (suc n) found i h =
    either_rule (sees k.Comma i) _ _ (after k.Comma i)
    (then_left (item (after k.Comma i)) _ (keeps (after k.Comma i) (after_kept k.Comma i h)) (λ x j left. further_from_keeps item keeps n (found ++ x ∷ []) j left))
    (after_kept k.Comma i h)

pub further_keeps : {A : Type 0} (item : Rule A) → Keeps item → (found : List A) → Keeps (further item found)
further_keeps item keeps found i h = further_from_keeps item keeps (length i.rest) found i h
