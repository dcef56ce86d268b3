-- The lines of repeats, switches and copies of a state, by what they are made of.
use Rattle.std.proofs.Common.{◌≡◌, ℕ, Bool, List, [], ◌∷◌, ◌++◌, codes, decimal, length, drop, ◌<◌, Option, refl, sym, ap, ◌∙◌, append_assoc, append-nil, arith}
use Rattle.std.specs.Prelude.{get_or, unwrap_or}
use Rattle.std.specs.List.{flat_map}
use Rattle.xf_def_ui.specs.declared.answers.Item.{Item}
use Rattle.xf_def_ui.specs.Interface.{Interface, Sort, select}
use Rattle.xf_def_ui.specs.Elements.{element_at}
use Rattle.xf_def_ui.specs.Index.{index_of, rows_now}
use Rattle.xf_def_ui.specs.Cases.{cases_of}
use Rattle.xf_def_ui.specs.Copies.{Copy}
use Rattle.xf_def_machine.specs.Profile.{Profile}
use Rattle.xf_def_machine.specs.State.{State}
use Rattle.xf_def_machine.specs.Surround.{interface, quiet}
use Rattle.xf_def_machine.specs.NoteLines.{quoted}
use Rattle.xf_def_machine.specs.StateText.{spaced, line_of, marks_text, name_by, name_of, repeat_line, switch_line}
use Rattle.xf_def_machine.specs.ControlText.{joined, rows_text, marks_of, value_part, sign_if, is_chosen_in, item_line, item_lines, copy_lines}
use Rattle.xf_report.specs.Controls.{behind_comma, IsRepeat, IsCopy, Seen, repeat_text, switch_text, rows_in, many_in, item_text, item_texts, copy_text}
use Rattle.xf_report.specs.Named.{name_with, name_in}

name-with : (s : State) (n : ℕ) (id : List ℕ) → name_by s n id ≡ name_with (interface s) n id
name-with s n [] = refl
name-with s n (b ∷ bs) = refl

name-same : (s : State) (f : Interface) (n : ℕ) → interface s ≡ f → name_of s n ≡ name_in f n
name-same s f n e = name-with s n (element_at (interface s) n).id ∙ ap (λ (g : Interface). name_in g n) e

pub repeat-is : (p : Profile) (s : State) (f : Interface) (r index rows : ℕ) → IsRepeat p s f r index rows → repeat_line p s r ≡ repeat_text f r index rows
repeat-is p s f r index rows is =
    let count = length (unwrap_or (rows_now (interface s) (quiet p s) s.indexes r) []) in
    ap (λ n. line_of (codes "repeat " ++ n ++ spaced (decimal (index_of (interface s) s.indexes r).index) ++ spaced (decimal count))) (name-same s f r is.form)
    ∙ ap (λ k. line_of (codes "repeat " ++ name_in f r ++ spaced (decimal k) ++ spaced (decimal count))) is.place
    ∙ ap (λ k. line_of (codes "repeat " ++ name_in f r ++ spaced (decimal index) ++ spaced (decimal k))) is.count

-- the case of a switch that has this place
pub switch-is : (s : State) (f : Interface) (switch place one : ℕ) → interface s ≡ f → get_or (cases_of f switch) place 0 ≡ one → switch_line s (switch, place) ≡ switch_text f switch one
switch-is s f switch place one e is =
    ap (λ n. line_of (codes "case " ++ n ++ spaced (name_of s (get_or (cases_of (interface s) switch) place 0)))) (name-same s f switch e)
    ∙ ap (λ n. line_of (codes "case " ++ name_in f switch ++ spaced n)) (name-same s f (get_or (cases_of (interface s) switch) place 0) e ∙ ap (λ (g : Interface). name_in f (get_or (cases_of g switch) place 0)) e ∙ ap (name_in f) is)

joined-from : (k : ℕ) (ks : List ℕ) → joined (k ∷ ks) ≡ decimal k ++ flat_map behind_comma ks
joined-from k [] = sym (append-nil (decimal k))
joined-from k (l ∷ ks) =
    append_assoc (decimal k) (codes ",") (joined (l ∷ ks))
    ∙ ap (λ t. decimal k ++ (codes "," ++ t)) (joined-from l ks)
    ∙ ap (λ t. decimal k ++ t) (sym (append_assoc (codes ",") (decimal l) (flat_map behind_comma ks)))

-- a first number, and the others each behind a comma
pub joined-split : (rows : List ℕ) → 0 < length rows → joined rows ≡ decimal (get_or rows 0 0) ++ flat_map behind_comma (drop 1 rows)
joined-split [] h = absurd (omega arith)
joined-split (k ∷ ks) h = joined-from k ks

pub flat-same : {X : Type 0} (f g : X → List ℕ) → ((x : X) → f x ≡ g x) → (xs : List X) → flat_map f xs ≡ flat_map g xs
flat-same f g h [] = refl
flat-same f g h (x ∷ xs) = ap (λ l. l ++ flat_map f xs) (h x) ∙ ap (λ l. g x ++ l) (flat-same f g h xs)

module _ (p : Profile) (s : State) (f : Interface) (c : Copy) (x : Seen) (is : IsCopy p s f c x) where
  name : name_of s c.element ≡ name_in f x.element
  name = name-same s f c.element is.form ∙ ap (name_in f) is.element

  rows : spaced (rows_text p s c) ≡ rows_in x.rows
  rows = ap rows_in is.rows

  joined-name : (front back : List ℕ) → (front ++ name_of s c.element ++ spaced (rows_text p s c)) ++ back ≡ (front ++ (name_in f x.element ++ rows_in x.rows)) ++ back
  joined-name front back =
      ap (λ n. (front ++ n ++ spaced (rows_text p s c)) ++ back) name
      ∙ ap (λ r. (front ++ name_in f x.element ++ r) ++ back) rows
      ∙ ap (λ l. l ++ back) (append_assoc front (name_in f x.element) (rows_in x.rows))

  line : line_of (codes "control " ++ name_of s c.element ++ spaced (rows_text p s c) ++ spaced (marks_text (marks_of c)) ++ value_part c.value)
      ≡ line_of (codes "control " ++ (name_in f x.element ++ rows_in x.rows) ++ spaced (marks_text x.marks) ++ value_part x.value)
  line =
      ap (λ l. line_of (l ++ value_part c.value)) (joined-name (codes "control ") (spaced (marks_text (marks_of c))))
      ∙ ap (λ m. line_of (codes "control " ++ (name_in f x.element ++ rows_in x.rows) ++ spaced (marks_text m) ++ value_part c.value)) is.marks
      ∙ ap (λ v. line_of (codes "control " ++ (name_in f x.element ++ rows_in x.rows) ++ spaced (marks_text x.marks) ++ value_part v)) is.value

  item : (many : Bool) (i : Item) → item_line p s c many i ≡ item_text (name_in f x.element ++ rows_in x.rows) many x.value i
  item many i =
      ap (λ l. line_of (l ++ spaced (quoted i.value) ++ sign_if (is_chosen_in many c.value i))) (joined-name (codes "item ") (spaced (quoted i.label)))
      ∙ ap (λ v. line_of (codes "item " ++ (name_in f x.element ++ rows_in x.rows) ++ spaced (quoted i.label) ++ spaced (quoted i.value) ++ sign_if (is_chosen_in many v i))) is.value

  items : (sort : Sort) → item_lines p s c sort ≡ item_texts (name_in f x.element ++ rows_in x.rows) (many_in sort) x.value x.items
  items (select many is_free) =
      flat-same (item_line p s c many) (item_text (name_in f x.element ++ rows_in x.rows) many x.value) (item many) c.items
      ∙ ap (flat_map (item_text (name_in f x.element ++ rows_in x.rows) many x.value)) is.items
  items sort = refl

  pub copy-is : copy_lines p s c ≡ copy_text f x
  copy-is =
      ap (λ l. l ++ item_lines p s c (element_at (interface s) c.element).sort) line
      ∙ ap (λ l. line_of (codes "control " ++ (name_in f x.element ++ rows_in x.rows) ++ spaced (marks_text x.marks) ++ value_part x.value) ++ l)
      (items (element_at (interface s) c.element).sort
      ∙ ap (λ (g : Interface). item_texts (name_in f x.element ++ rows_in x.rows) (many_in (element_at g c.element).sort) x.value x.items) is.form
      ∙ ap (λ n. item_texts (name_in f x.element ++ rows_in x.rows) (many_in (element_at f n).sort) x.value x.items) is.element)
