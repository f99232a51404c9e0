-- The limits and sizes of the formats. `Limits`, what a version's numbers are, is declared in src/lib.rt, where
-- `Limits::version1` ties the numbers of version 1 to the associated constants of the types that they bound.
use Rattle.std.specs.Prelude.{Bool, cond, ◌||◌, List, ℕ, get_or, eqb}
use Rattle.model.specs.declared.Limits.{Limits}

-- what no version changes: at most 64 actions, 256 steps and 32,768 bytes of a problem; formulas of 1 to 1,024 bytes, whose groups have at most 255
-- members and stand in one another at most 8 deep
abbrev pub max_actions : ℕ
max_actions = 64

abbrev pub max_steps : ℕ
max_steps = 256

abbrev pub max_problem_bytes : ℕ
max_problem_bytes = 32768

abbrev pub max_formula_bytes : ℕ
max_formula_bytes = 1024

abbrev pub max_members : ℕ
max_members = 255

abbrev pub max_depth : ℕ
max_depth = 8

-- a search tries plans of at most 4 steps, and at most 1,000,000 of them
abbrev pub max_length : ℕ
max_length = 4

abbrev pub max_plans : ℕ
max_plans = 1000000

-- what every version keeps to: a denial's byte is its fact's and 64 more, and a fact has two literals
abbrev pub max_facts : ℕ
max_facts = 64

abbrev pub max_effects : ℕ
max_effects = 128

-- limits: the numbers of version 1
abbrev pub version1 : Limits
version1 =
    record {
      version = 1;
      width = 48;
      facts = 48;
      effects = 96;
      line = 8;
      lines = 8191;
    }

-- the numbers of version 2
abbrev pub version2 : Limits
version2 =
    record {
      version = 2;
      width = 64;
      facts = 64;
      effects = 128;
      line = 10;
      lines = 6553;
    }

-- the versions of problems and lists
abbrev pub is_version : ℕ → Bool
is_version b = eqb b 1 || eqb b 2

-- versions: the numbers of the version that a problem's block begins with. A block that begins with none is refused by those of version 1.
abbrev pub limits_of : List ℕ → Limits
limits_of problem = cond (eqb (get_or problem 0 0) 2) version2 version1
