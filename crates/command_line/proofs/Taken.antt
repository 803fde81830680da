-- What `clap` says of the program's command.
use Rattle.std.proofs.Common.{◌≡◌, ◌∙◌, true, false, List, [], ◌∷◌, refl, sym, subst, inl, inr, ap, arith, IfErr, Result}
use Rattle.std.specs.Prelude.{Ok, Err, IsErrAnd}
use Rattle.clap.specs.Words.{App, HasKind, Kinds, Rule, Text, app_of, fault_of, is_simple, is_simple_and_free, kind_of, rule_of, with_rule, AddsArg, HasMatchesOf, matches_of}
use Rattle.clap.specs.Walk.{is_empty}
use Rattle.clap.specs.declared.builder.arg.Arg.{Arg}
use Rattle.clap.specs.declared.builder.command.Command.{Command}
use Rattle.clap.specs.declared.error.Error.{Error}
use Rattle.clap.specs.declared.error.kind.ErrorKind.TheVariants.{OutOfMemory}
use Rattle.command_line.specs.declared.settings.WordsFault.{WordsFault}
use Rattle.command_line.specs.declared.settings.WordsFault.TheVariants.{Usage}
use Rattle.command_line.specs.Options.{command, given, given_in, is_taken}
use Rattle.clap.specs.declared.parser.matches.ArgMatches.{ArgMatches}

pub command_is_simple : is_simple command ≡ true
unfolding command
command_is_simple = refl

pub command_is_free : is_simple_and_free command ≡ true
unfolding command
command_is_free = refl

-- one more argument
pub added : {old new : Command} {arg : Arg} {app : App} {rule : Rule} → AddsArg old arg new → arg.global ≡ false → rule_of arg ≡ rule → app_of old ≡ app
    → app_of new ≡ with_rule app rule
added adds local is_rule is_app = rw (← is_app, ← is_rule) (adds.shape local)

-- the words of a parse that succeeded
pub taken_by : (made : Command) (words : List Text) → app_of made ≡ command → (is_simple_and_free (app_of made) ≡ true → fault_of (app_of made) words ≡ [])
    → is_taken words ≡ true
unfolding is_taken
taken_by made words is none = ap is_empty (ap (λ app. fault_of app words) (sym is) ∙ none (ap is_simple_and_free is ∙ command_is_free))

pub given_by : (made : Command) (words : List Text) (matches : ArgMatches) → app_of made ≡ command → HasMatchesOf (app_of made) words matches
    → given_in matches ≡ given words
unfolding given
given_by made words matches is found = (found (ap is_simple is ∙ command_is_simple)).0 ∙ ap (λ app. matches_of app words) is

not_empty : (kinds : Kinds) (e : Error) → HasKind kinds e → (kind_of e ≡ OutOfMemory → ⊥) → is_empty kinds ≡ false
not_empty [] e (inl h) not = absurd (not h)
not_empty [] e (inr h) not = absurd h
not_empty (k ∷ ks) e h not = grind arith

-- and of one that failed, but for want of memory
pub refused_by : (made : Command) (words : List Text) (e : Error) → app_of made ≡ command → (is_simple_and_free (app_of made) ≡ true → HasKind (fault_of (app_of made) words) e)
    → (kind_of e ≡ OutOfMemory → ⊥) → is_taken words ≡ false
unfolding is_taken
refused_by made words e is fails not =
    not_empty (fault_of command words) e (subst (λ app. HasKind (fault_of app words) e) is (fails (ap is_simple_and_free is ∙ command_is_free))) not

-- the fault that a parse's error becomes
pub refuses : {T : Type 0} {refused : Type 0} (r : Result T WordsFault) (e : Error) → IsErrAnd r (λ fault. fault ≡ Usage → kind_of e ≡ OutOfMemory → ⊥)
    → ((kind_of e ≡ OutOfMemory → ⊥) → refused) → IfErr r (λ fault. fault ≡ Usage → refused)
refuses (Ok value) e h then = absurd h
refuses (Err fault) e h then = λ is. then (h is)
