-- Words of a command line.
use Rattle.std.proofs.Common.{◌≡◌, ℕ, List, [], ◌∷◌, length, get_or, map, String, string_bytes, true, false, bytes_eq, ap, sym, ◌∙◌, arith}
use Rattle.std.proofs.lemmas.Slice.Eq.{bytes_eq-Decides}
use Rattle.std.specs.declared.alloc.Global.{Global}
use Rattle.xf_cli_commands.specs.declared.status.Command.{Command}
use Rattle.xf_cli_commands.specs.Statuses.{word_of, Spells}

one_item : {X : Type 0} (xs : List X) (x : X) → length xs ≡ 1 → x ≡ get_or xs 0 x → xs ≡ x ∷ []
one_item [] x n e = absurd (omega arith)
one_item (y ∷ []) x n e = ap (λ z. z ∷ []) (sym e)
one_item (y ∷ z ∷ zs) x n e = absurd (omega arith)

first_same : (xs ys : List ℕ) → xs ∷ [] ≡ ys ∷ [] → xs ≡ ys
first_same xs ys e = cc

spelled : (words : List (String Global)) (word : String Global) → length words ≡ 1 → word ≡ get_or words 0 word → map string_bytes words ≡ string_bytes word ∷ []
spelled words word one is = ap (map string_bytes) (one_item words word one is)

-- the one word is that of the command
pub spells : (command : Command) (words : List (String Global)) (word : String Global) → length words ≡ 1 → word ≡ get_or words 0 word
    → bytes_eq (string_bytes word) (word_of command) ≡ true → Spells (map string_bytes words) command
spells command words word one is test =
    spelled words word one is ∙ ap (λ w. w ∷ []) ((bytes_eq-Decides (string_bytes word) (word_of command)).0 test)

-- it is not
pub spells_not : (command : Command) (words : List (String Global)) (word : String Global) → length words ≡ 1 → word ≡ get_or words 0 word
    → bytes_eq (string_bytes word) (word_of command) ≡ false → Spells (map string_bytes words) command → ⊥
spells_not command words word one is test h =
    let same : bytes_eq (string_bytes word) (word_of command) ≡ true =
    (bytes_eq-Decides (string_bytes word) (word_of command)).1 (first_same _ _ (sym (spelled words word one is) ∙ h)) in absurd (cc)
