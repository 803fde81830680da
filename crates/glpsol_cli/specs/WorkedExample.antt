-- Worked examples of a run: the words, and for each problem the text of its model's file.
use Rattle.std.specs.Prelude.{ℕ, List, [], ◌∷◌, codes}
use Rattle.milp.specs.Problem.{Problem}
use Rattle.worked_problems.specs.Problems.{any_whole, endless, least_whole, parted, pivoted}

-- the model's file is `model`
abbrev pub example_words : List (List ℕ)
example_words = codes "--freemps" ∷ codes "model" ∷ []

pub data Example : Type 0 where
  AnyWhole : Example
  LeastWhole : Example
  Endless : Example
  Pivoted : Example
  Parted : Example

abbrev pub problem_of : Example → Problem
problem_of AnyWhole = any_whole
problem_of LeastWhole = least_whole
problem_of Endless = endless
problem_of Pivoted = pivoted
problem_of Parted = parted

abbrev pub text_of : Example → List ℕ
text_of AnyWhole = codes "NAME t\nROWS\n N obj\nCOLUMNS\n x obj 0\nBOUNDS\n LI b x 0\nENDATA\n"
text_of LeastWhole = codes "NAME t\nROWS\n N obj\nCOLUMNS\n x obj 1\nBOUNDS\n LI b x 2\n UP b x 5\nENDATA\n"
text_of Endless = codes "NAME t\nROWS\n N obj\nCOLUMNS\n x obj -2\nENDATA\n"
text_of Pivoted = codes "NAME t\nROWS\n N obj\n L r\nCOLUMNS\n x obj -1 r 1\nRHS\n b r 2\nENDATA\n"
text_of Parted = codes "NAME t\nROWS\n N obj\n L r\nCOLUMNS\n x obj 1 r 3\nRHS\n b r 2\nRANGES\n b r 1\nBOUNDS\n LI b x 0\nENDATA\n"
