-- The options of the program, as `clap` sees them.
use Rattle.std.specs.Prelude.{ℕ, Bool, true, List, [], ◌∷◌, Some, codes}
use Rattle.clap.specs.Words.{App, Row, Rule, Text, fault_of, found_of, matches_of, new_rule, rows_of}
use Rattle.clap.specs.Simple.{new_shape}
use Rattle.clap.specs.Walk.{is_empty}
use Rattle.clap.specs.declared.builder.action.ArgAction.TheVariants.{Append, SetTrue}
use Rattle.clap.specs.declared.parser.matches.ArgMatches.{ArgMatches}

-- the one word that is no option and no option's value
abbrev pub file_rule : Rule
file_rule = new_rule (codes "FILE")

-- `--name`
abbrev pub flag_rule : Text → Rule
flag_rule name = record (new_rule name) { long = Some name; action = Some SetTrue }

-- `--name VALUE`
abbrev pub option_rule : Text → Rule
option_rule name = record (new_rule name) { long = Some name }

-- `--name VALUE`, and `-l VALUE` for its letter
abbrev pub lettered_rule : Text → ℕ → Rule
lettered_rule name letter = record (option_rule name) { short = Some letter }

-- the same, any number of times
abbrev pub repeated_rule : Text → ℕ → Rule
repeated_rule name letter = record (lettered_rule name letter) { action = Some Append }

-- what may stand among the words; 100 is the letter d, 109 the letter m, 111 the letter o, 119 the letter w, 121 the letter y
abbrev pub rules : List Rule
rules = file_rule
    ∷ flag_rule (codes "math")
    ∷ flag_rule (codes "freemps")
    ∷ flag_rule (codes "lp")
    ∷ lettered_rule (codes "model") 109
    ∷ repeated_rule (codes "data") 100
    ∷ lettered_rule (codes "display") 121
    ∷ flag_rule (codes "check")
    ∷ flag_rule (codes "min")
    ∷ flag_rule (codes "max")
    ∷ flag_rule (codes "nomip")
    ∷ flag_rule (codes "exact")
    ∷ lettered_rule (codes "output") 111
    ∷ lettered_rule (codes "write") 119
    ∷ option_rule (codes "cert")
    ∷ option_rule (codes "checkcert")
    ∷ option_rule (codes "nodlim")
    ∷ option_rule (codes "pivlim")
    ∷ option_rule (codes "workers")
    ∷ option_rule (codes "demo")
    ∷ flag_rule (codes "iis")
    ∷ flag_rule (codes "rowsplit")
    ∷ flag_rule (codes "gomory")
    ∷ option_rule (codes "ranges-exact")
    ∷ []

-- the command: the words are those after the program's name, and there is no `--help`
unfoldable pub command : App
command = record {
  top = record (new_shape (codes "glpsol")) {
    rules = rules;
    no_binary_name = true;
    disable_help_flag = true;
  };
  subs = [];
}

-- each word is an option, an option's value or FILE, each but `--data` at most once, and each option has its value
unfoldable pub is_taken : List Text → Bool
is_taken words = is_empty (fault_of command words)

-- what is given for each option and for FILE
unfoldable pub given : List Text → List Row
given words = matches_of command words

-- what `clap` found
abbrev pub given_in : ArgMatches → List Row
given_in matches = rows_of (found_of matches)
