-- A loop that makes something of the string value of each node.
use Rattle.std.proofs.Common.{◌≡◌, ℕ, ◌+◌, ◌<◌, ◌≤◌, List, map, drop, length, get_or, Option, Some, None, option_map, sym, ap, ◌∙◌}
use Rattle.std.proofs.lemmas.List.{at_drop_more, at_drop_all}
use Rattle.xf_def_forest.specs.declared.node.NodeId.{NodeId}
use Rattle.xf_def_xpath.specs.Setting.{each}
use Rattle.xf_eval.proofs.Lists.{onto, onto-end, onto-none, each-mapped}

abbrev numbers : List NodeId → List ℕ
numbers ids = map (λ (i : NodeId). i.number) ids

abbrev left : {B : Type 0} → (ℕ → Option B) → List B → List NodeId → Option (List B)
left made done ids = onto done (each made (numbers ids))

-- a string that is too long is none of the whole
pub loop-stuck : {B : Type 0} (text : ℕ → Option (List ℕ)) (f : List ℕ → B) (done : List B) (ids : List NodeId) (ns : List ℕ) (i : ℕ) (d : NodeId) → numbers ids ≡ ns →
    left (λ n. option_map f (text n)) done (drop i ids) ≡ each (λ n. option_map f (text n)) (numbers ids) → i < length ids → text (get_or ids i d).number ≡ None →
    option_map (map f) (each text ns) ≡ None
loop-stuck {B = B} text f done ids ns i d e inv l h =
    let made : ℕ → Option B = λ n. option_map f (text n) in
    sym (each-mapped text f ns) ∙ ap (each made) (sym e) ∙ sym inv ∙ at_drop_more (left made done) ids i d l
    ∙ onto-none made done (get_or ids i d).number (numbers (drop (i + 1) ids)) (ap (option_map f) h)

-- at the end all is made
pub loop-done : {B : Type 0} (text : ℕ → Option (List ℕ)) (f : List ℕ → B) (done : List B) (ids : List NodeId) (ns : List ℕ) (i : ℕ) → numbers ids ≡ ns →
    left (λ n. option_map f (text n)) done (drop i ids) ≡ each (λ n. option_map f (text n)) (numbers ids) → length ids ≤ i →
    option_map (map f) (each text ns) ≡ Some done
loop-done {B = B} text f done ids ns i e inv l =
    let made : ℕ → Option B = λ n. option_map f (text n) in
    sym (each-mapped text f ns) ∙ ap (each made) (sym e) ∙ sym inv ∙ at_drop_all (left made done) ids i l ∙ onto-end done
