-- What is printed of the cases of a sheet.
use Rattle.std.specs.Prelude.{ℕ, Bool, List, [], ◌++◌, not, length, count_by, if◌then◌else◌, codes, decimal, ◌&&◌}
use Rattle.std.specs.List.{flat_map}
use Rattle.std.specs.Str.{bytes_eq}
use Rattle.xf_test_vectors.specs.declared.sheet.Outcome.{Outcome}

-- the answer is not what was wanted
abbrev pub differs : Outcome → Bool
differs outcome = not (bytes_eq outcome.came outcome.wanted)

-- the case calls the crate of this name
abbrev pub is_of : List ℕ → Outcome → Bool
is_of name outcome = bytes_eq outcome.crate_name name

-- the case calls the crate of this name, and its answer is not what was wanted
abbrev pub differs_in : List ℕ → Outcome → Bool
differs_in name outcome = is_of name outcome && differs outcome

-- the line of a case whose answer is not what was wanted, and nothing for any other
abbrev pub difference_line : Outcome → List ℕ
difference_line outcome =
    if differs outcome then
    codes "line " ++ decimal outcome.line ++ codes ": came " ++ outcome.came ++ codes ", wanted " ++ outcome.wanted ++ codes "\n"
    else []

-- so many cases under a name, of which so many differ
abbrev pub count_line : List ℕ → ℕ → ℕ → List ℕ
count_line name cases differ =
    name ++ (codes " " ++ (decimal cases ++ (codes " cases, " ++ (decimal differ ++ codes " differ\n"))))

-- the counts of a crate
abbrev pub crate_line : List Outcome → List ℕ → List ℕ
crate_line outcomes name = count_line name (count_by (is_of name) outcomes) (count_by (differs_in name) outcomes)

-- each difference, then the counts of each crate, then those of the whole sheet
abbrev pub report_text : List (List ℕ) → List Outcome → List ℕ
report_text names outcomes =
    flat_map difference_line outcomes
    ++ flat_map (crate_line outcomes) names
    ++ count_line (codes "total") (length outcomes) (count_by differs outcomes)
