use Rattle.std.proofs.Common.{◌≡◌, ℕ, suc, ◌<◌, List, [], ◌∷◌, ◌++◌, length, get_or, cond, eqb, Some, None, option_map, MatchOption, Bor, inl, inr, refl, sym, ap, ◌∙◌, arith}
use Rattle.std.specs.declared.option.Option.{Option}
use Rattle.std.proofs.lemmas.Str.Pattern.{split_parts}
use Rattle.std.proofs.lemmas.Bool.Decides.{eqb_tells}
use Rattle.xf_path.specs.Primary.{at_quote}
use Rattle.xf_path.proofs.operands.at_quote.Goals as goal

not_quote : {A : Type 0} (q b : ℕ) (x y : A) → (b ≡ q → ⊥) → cond (eqb b q) x y ≡ y
not_quote q b x y other = elim (eqb_tells b q) [ inl p ↦ absurd (other p.1) | inr p ↦ ap (λ t. cond t x y) p.0 ]

is_quote : {A : Type 0} (q : ℕ) (x y : A) → cond (eqb q q) x y ≡ x
is_quote q x y = elim (eqb_tells q q) [ inl p ↦ ap (λ t. cond t x y) p.0 | inr p ↦ absurd (p.1 refl) ]

without : (q : ℕ) (bs : List ℕ) → ((i : ℕ) → i < length bs → get_or bs i 0 ≡ q → ⊥) → at_quote q bs ≡ None
without q [] h = refl
without q (b ∷ bs) h =
    not_quote q b (Some ([], bs)) (option_map (λ p. (b ∷ p.0, p.1)) (at_quote q bs)) (h 0 (omega arith)) ∙ ap (option_map (λ p. (b ∷ p.0, p.1))) (without q bs (λ i k. h (suc i) (omega arith)))

around : (q : ℕ) (before after : List ℕ) → ((i : ℕ) → i < length before → get_or before i 0 ≡ q → ⊥) → at_quote q (before ++ q ∷ after) ≡ Some (before, after)
around q [] after h = is_quote q (Some ([], after)) (option_map (λ p. (q ∷ p.0, p.1)) (at_quote q after))
around q (b ∷ bs) after h =
    not_quote q b (Some ([], bs ++ q ∷ after)) (option_map (λ p. (b ∷ p.0, p.1)) (at_quote q (bs ++ q ∷ after))) (h 0 (omega arith))
    ∙ ap (option_map (λ p. (b ∷ p.0, p.1))) (around q bs after (λ i k. h (suc i) (omega arith)))

split_by : (q : ℕ) (bs : List ℕ) (r : Option (Bor (List ℕ) × Bor (List ℕ)))
    → MatchOption r ((i : ℕ) → i < length bs → get_or bs i 0 ≡ q → ⊥) (λ x. (bs ≡ x.0.now ++ (q ∷ x.1.now)) × ((i : ℕ) → i < length x.0.now → get_or x.0.now i 0 ≡ q → ⊥))
    → option_map (λ p. (p.0.now, p.1.now)) r ≡ at_quote q bs
split_by q bs None h = sym (without q bs h)
split_by q bs (Some p) h = sym (ap (at_quote q) h.0 ∙ around q p.0.now p.1.now h.1)

pub returns : goal.returns
returns c = split_by c.args.quote c.args.text.now c.split_once.result (split_parts c.args.quote c.args.text.now c.split_once.result c.split_once.ensures.cases c.requires)
