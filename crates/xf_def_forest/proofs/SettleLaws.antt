-- A text with a given number: its setting is that of a text where this number is the next one, and is put back in the same way.
use Rattle.std.proofs.Common.{◌≡◌, ℕ, ◌+◌, true, List, ◌++◌, refl, sym, ap, ◌∙◌, inl, inr}
use Rattle.std.proofs.lemmas.Bool.{cases_Bool}
use Rattle.xf_def_forest.specs.declared.content.Node.{Node}
use Rattle.xf_def_forest.specs.Texts.{Keeping, Before, attribute_text, element_texts, is_attribute_at, with_text, put_back, before_of, taken_from}
use Rattle.xf_def_forest.specs.Settle.{with_numbered_text}
use Rattle.xf_def_forest.specs.WellFormed.{are_apart}
use Rattle.xf_def_forest.proofs.BackLaws.{AreOutside, HasText, after_set, put_back-after_set}

-- where this number is the next one, a text is set with it
pub numbered-is : (number n : ℕ) (text : List ℕ) (nodes : List Node) → (with_text n text (record { nodes = nodes; next = number })).nodes ≡ with_numbered_text number n text nodes
numbered-is number n text nodes = elim (cases_Bool (is_attribute_at n nodes)) [ inl e ↦ rw e refl | inr e ↦ rw e refl ]

-- a text with any number, where so many numbers are passed over
abbrev pub after_numbered : ℕ → ℕ → ℕ → List ℕ → Keeping → Keeping
after_numbered number more n text k = record {
  forest = record { nodes = with_numbered_text number n text k.forest.nodes; next = k.forest.next + more };
  kept = k.kept ++ taken_from n k.forest.nodes;
}

back-next : (n next : ℕ) (before : Before) (k : Keeping)
    → put_back n before (record k { forest = record k.forest { next = next } }) ≡ record { forest = record { nodes = (put_back n before k).forest.nodes; next = next }; kept = (put_back n before k).kept }
back-next n next (attribute_text text) k = refl
back-next n next (element_texts ns) k = refl

-- it is put back: all but the next number is as before
pub put_back-after_numbered : (number more n : ℕ) (text : List ℕ) (k : Keeping) → are_apart k.forest.nodes ≡ true → AreOutside k.forest.nodes k.kept → HasText n k.forest.nodes
    → put_back n (before_of n k.forest.nodes) (after_numbered number more n text k) ≡ record k { forest = record k.forest { next = k.forest.next + more } }
put_back-after_numbered number more n text k apart out has =
    let there : Keeping = record { forest = record { nodes = k.forest.nodes; next = number }; kept = k.kept } in
    let back = put_back-after_set n text there apart out has in
    let before = before_of n k.forest.nodes in
    let next = k.forest.next + more in
    ap (λ l. put_back n before (record { forest = record { nodes = l; next = next }; kept = k.kept ++ taken_from n k.forest.nodes })) (sym (numbered-is number n text k.forest.nodes))
    ∙ back-next n next before (after_set n text there)
    ∙ ap (λ (q : Keeping). record { forest = record { nodes = q.forest.nodes; next = next }; kept = q.kept }) back
