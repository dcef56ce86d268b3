-- What stands in the parts of an element is what stands in the first, and then what stands in the others.
use Rattle.std.proofs.Common.{◌≡◌, ℕ, zero, suc, ◌+◌, ◌<◌, Bool, true, false, List, [], ◌∷◌, ◌++◌, length, drop, get_or, refl, sym, ap, ◌∙◌, append_assoc}
use Rattle.std.specs.Prelude.{Some, None, filter, if◌then◌else◌}
use Rattle.std.specs.List.{flat_map}
use Rattle.std.proofs.lemmas.Grind.{flat_map-append}
use Rattle.std.proofs.lemmas.List.{append-nil, drop_more}
use Rattle.std.proofs.lemmas.List.Elements.{filter-append}
use Rattle.xf_def_syntax.specs.declared.element.Part.{Part}
use Rattle.xf_def_syntax.specs.declared.element.Part.TheVariants as part
use Rattle.xf_def_syntax.specs.Ordered.{child_in}
use Rattle.xf_def_xpath.specs.Binding.{as_list}
use Rattle.xf_def_ui.specs.Elements.{element_at, is_action, looked_through, through}
use Rattle.xf_def_ui.specs.Interface.{Interface, Sort, host, other, group, switch, one_case, repeated, field, output, select, item, itemset, choices, label, item_value, inline, action}
use Rattle.xf_def_ui.specs.Labels.{piece_of, pieces, pieces_in, words_in}
use Rattle.xf_form_elements.specs.Parts.{host_parts, is_host, own_text}
use Rattle.xf_events.specs.Inner.{actions_through, own_action, words_through}

-- what stood before, and what one part adds to it
pub carried : {X : Type 0} (now mid new own below rest w : List X) → mid ≡ now ++ own → new ≡ mid ++ below → w ≡ (own ++ below) ++ rest → now ++ w ≡ new ++ rest
carried now mid new own below rest w e g h =
    ap (λ l. now ++ l) h ∙ sym (append_assoc now (own ++ below) rest)
    ∙ ap (λ l. l ++ rest) (sym (append_assoc now own below) ∙ ap (λ l. l ++ below) (sym e) ∙ sym g)

pub all-told : {X : Type 0} (a b w rest : List X) → a ++ w ≡ b ++ rest → rest ≡ [] → b ≡ a ++ w
all-told a b w rest e h = sym (e ∙ ap (λ l. b ++ l) h ∙ append-nil b)

pub unchanged : {X : Type 0} {a b w : List X} → b ≡ a → w ≡ [] → b ≡ a ++ w
unchanged {X} {a} {b} {w} e h = e ∙ sym (append-nil a) ∙ ap (λ l. a ++ l) (sym h)

module _ (f : Interface) where
  abbrev act : ℕ → Bool
  act n = is_action (element_at f n).sort

  -- ---- words

  pub no-words : (most : ℕ) → words_through most f [] ≡ []
  no-words zero = refl
  no-words (suc m) = refl

  pub no-words-further : (most : ℕ) (ps : List Part) → most ≡ 0 → words_through most f ps ≡ []
  no-words-further most ps h = ap (λ k. words_through k f ps) h

  words-by-sort : (m n : ℕ) (s : Sort) → flat_map words_in (piece_of f (pieces m f) n s) ≡ words_through m f (if is_host s then (element_at f n).parts else [])
  words-by-sort m n host = refl
  words-by-sort m n other = sym (no-words m)
  words-by-sort m n group = sym (no-words m)
  words-by-sort m n (switch k) = sym (no-words m)
  words-by-sort m n (one_case b) = sym (no-words m)
  words-by-sort m n (repeated k i) = sym (no-words m)
  words-by-sort m n field = sym (no-words m)
  words-by-sort m n (output e) = sym (no-words m)
  words-by-sort m n (select a b) = sym (no-words m)
  words-by-sort m n item = sym (no-words m)
  words-by-sort m n itemset = sym (no-words m)
  words-by-sort m n choices = sym (no-words m)
  words-by-sort m n label = sym (no-words m)
  words-by-sort m n (item_value e) = sym (no-words m)
  words-by-sort m n (inline e) = sym (no-words m)
  words-by-sort m n (action h) = sym (no-words m)

  own-words : (m : ℕ) (p : Part) → flat_map words_in (pieces_in f (pieces m f) p) ≡ own_text p ++ words_through m f (host_parts f p)
  own-words m (part.Text t) = ap (λ l. t ++ l) (sym (no-words m))
  own-words m (part.Element n) = words-by-sort m n (element_at f n).sort

  words-cons : (m : ℕ) (p : Part) (rest : List Part) → words_through (suc m) f (p ∷ rest) ≡ (own_text p ++ words_through m f (host_parts f p)) ++ words_through (suc m) f rest
  words-cons m p rest =
      flat_map-append words_in (pieces_in f (pieces m f) p) (pieces (suc m) f rest)
      ∙ ap (λ l. l ++ words_through (suc m) f rest) (own-words m p)

  pub words-more : (most m : ℕ) (ps : List Part) (i : ℕ) (p : Part) → i < length ps → p ≡ get_or ps i p → most ≡ suc m
      → words_through most f (drop i ps) ≡ (own_text p ++ words_through m f (host_parts f p)) ++ words_through most f (drop (i + 1) ps)
  words-more most m ps i p l is more =
      ap (λ k. words_through k f (drop i ps)) more ∙ ap (λ qs. words_through (suc m) f qs) (drop_more ps i p l)
      ∙ ap (λ q. words_through (suc m) f (q ∷ drop (i + 1) ps)) (sym is) ∙ words-cons m p (drop (i + 1) ps)
      ∙ ap (λ k. (own_text p ++ words_through m f (host_parts f p)) ++ words_through k f (drop (i + 1) ps)) (sym more)

  -- ---- actions

  pub no-actions : (most : ℕ) → actions_through most f [] ≡ []
  no-actions zero = refl
  no-actions (suc m) = refl

  pub no-actions-further : (most : ℕ) (ps : List Part) → most ≡ 0 → actions_through most f ps ≡ []
  no-actions-further most ps h = ap (λ k. actions_through k f ps) h

  abbrev kept : Bool → ℕ → List ℕ
  kept b n = as_list (if b then Some n else None)

  if-kept : (n : ℕ) (b : Bool) → (if b then n ∷ [] else []) ≡ kept b n
  if-kept n true = refl
  if-kept n false = refl

  one-kept : (n : ℕ) → filter act (n ∷ []) ≡ kept (act n) n
  one-kept n = if-kept n (act n)

  actions-by-sort : (m n : ℕ) (s : Sort) → (element_at f n).sort ≡ s
      → filter act (through (looked_through m f) f n s) ≡ kept (act n) n ++ actions_through m f (if is_host s then (element_at f n).parts else [])
  actions-by-sort m n host e = ap (λ t. kept (is_action t) n ++ actions_through m f (element_at f n).parts) (sym e)
  actions-by-sort m n other e = one-kept n ∙ sym (append-nil (kept (act n) n)) ∙ ap (λ l. kept (act n) n ++ l) (sym (no-actions m))
  actions-by-sort m n group e = one-kept n ∙ sym (append-nil (kept (act n) n)) ∙ ap (λ l. kept (act n) n ++ l) (sym (no-actions m))
  actions-by-sort m n (switch k) e = one-kept n ∙ sym (append-nil (kept (act n) n)) ∙ ap (λ l. kept (act n) n ++ l) (sym (no-actions m))
  actions-by-sort m n (one_case b) e = one-kept n ∙ sym (append-nil (kept (act n) n)) ∙ ap (λ l. kept (act n) n ++ l) (sym (no-actions m))
  actions-by-sort m n (repeated k i) e = one-kept n ∙ sym (append-nil (kept (act n) n)) ∙ ap (λ l. kept (act n) n ++ l) (sym (no-actions m))
  actions-by-sort m n field e = one-kept n ∙ sym (append-nil (kept (act n) n)) ∙ ap (λ l. kept (act n) n ++ l) (sym (no-actions m))
  actions-by-sort m n (output x) e = one-kept n ∙ sym (append-nil (kept (act n) n)) ∙ ap (λ l. kept (act n) n ++ l) (sym (no-actions m))
  actions-by-sort m n (select a b) e = one-kept n ∙ sym (append-nil (kept (act n) n)) ∙ ap (λ l. kept (act n) n ++ l) (sym (no-actions m))
  actions-by-sort m n item e = one-kept n ∙ sym (append-nil (kept (act n) n)) ∙ ap (λ l. kept (act n) n ++ l) (sym (no-actions m))
  actions-by-sort m n itemset e = one-kept n ∙ sym (append-nil (kept (act n) n)) ∙ ap (λ l. kept (act n) n ++ l) (sym (no-actions m))
  actions-by-sort m n choices e = one-kept n ∙ sym (append-nil (kept (act n) n)) ∙ ap (λ l. kept (act n) n ++ l) (sym (no-actions m))
  actions-by-sort m n label e = one-kept n ∙ sym (append-nil (kept (act n) n)) ∙ ap (λ l. kept (act n) n ++ l) (sym (no-actions m))
  actions-by-sort m n (item_value x) e = one-kept n ∙ sym (append-nil (kept (act n) n)) ∙ ap (λ l. kept (act n) n ++ l) (sym (no-actions m))
  actions-by-sort m n (inline x) e = one-kept n ∙ sym (append-nil (kept (act n) n)) ∙ ap (λ l. kept (act n) n ++ l) (sym (no-actions m))
  actions-by-sort m n (action h) e = one-kept n ∙ sym (append-nil (kept (act n) n)) ∙ ap (λ l. kept (act n) n ++ l) (sym (no-actions m))

  abbrev stands : ℕ → ℕ → List ℕ
  stands m n = through (looked_through m f) f n (element_at f n).sort

  abbrev inside : ℕ → List ℕ → List ℕ
  inside m ns = filter act (flat_map (stands m) ns)

  own-actions : (m : ℕ) (p : Part) → inside m (child_in p) ≡ as_list (own_action f p) ++ actions_through m f (host_parts f p)
  own-actions m (part.Text t) = sym (no-actions m)
  own-actions m (part.Element n) =
      ap (λ l. filter act l) (append-nil (stands m n)) ∙ actions-by-sort m n (element_at f n).sort refl

  inside-append : (m : ℕ) (ns ks : List ℕ) → inside m (ns ++ ks) ≡ inside m ns ++ inside m ks
  inside-append m ns ks =
      ap (λ l. filter act l) (flat_map-append (stands m) ns ks) ∙ filter-append act (flat_map (stands m) ns) (flat_map (stands m) ks)

  actions-cons : (m : ℕ) (p : Part) (rest : List Part)
      → actions_through (suc m) f (p ∷ rest) ≡ (as_list (own_action f p) ++ actions_through m f (host_parts f p)) ++ actions_through (suc m) f rest
  actions-cons m p rest =
      inside-append m (child_in p) (flat_map child_in rest)
      ∙ ap (λ l. l ++ actions_through (suc m) f rest) (own-actions m p)

  pub actions-more : (most m : ℕ) (ps : List Part) (i : ℕ) (p : Part) → i < length ps → p ≡ get_or ps i p → most ≡ suc m
      → actions_through most f (drop i ps) ≡ (as_list (own_action f p) ++ actions_through m f (host_parts f p)) ++ actions_through most f (drop (i + 1) ps)
  actions-more most m ps i p l is more =
      ap (λ k. actions_through k f (drop i ps)) more ∙ ap (λ qs. actions_through (suc m) f qs) (drop_more ps i p l)
      ∙ ap (λ q. actions_through (suc m) f (q ∷ drop (i + 1) ps)) (sym is) ∙ actions-cons m p (drop (i + 1) ps)
      ∙ ap (λ k. (as_list (own_action f p) ++ actions_through m f (host_parts f p)) ++ actions_through k f (drop (i + 1) ps)) (sym more)
