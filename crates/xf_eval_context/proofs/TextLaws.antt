-- The text that is joined in the parts of an element is what the first gives, and then what the others give.
use Rattle.std.proofs.Common.{◌≡◌, ℕ, zero, suc, ◌+◌, ◌<◌, List, [], ◌∷◌, ◌++◌, length, drop, get_or, Option, Some, None, option_map, Err, refl, sym, ap, ◌∙◌, append_assoc}
use Rattle.std.specs.Prelude.{if◌then◌else◌}
use Rattle.std.specs.List.{flat_map}
use Rattle.std.proofs.lemmas.List.{append-nil, drop_more}
use Rattle.xf_def_syntax.specs.declared.element.Part.{Part}
use Rattle.xf_def_syntax.specs.declared.element.Part.TheVariants as part
use Rattle.xf_def_xpath.specs.declared.fault.EvalFault.{EvalFault}
use Rattle.xf_def_xpath.specs.declared.fault.EvalFault.TheVariants as fault
use Rattle.xf_def_xpath.specs.Setting.{each}
use Rattle.xf_def_xpath.specs.Setting as option
use Rattle.xf_def_ui.specs.Around.{Around}
use Rattle.xf_def_ui.specs.Context.{Inside, context_in}
use Rattle.xf_def_ui.specs.Elements.{element_at}
use Rattle.xf_def_ui.specs.Interface.{Interface, Sort, host, other, group, switch, one_case, repeated, field, output, select, item, itemset, choices, label, item_value, inline, action}
use Rattle.xf_def_ui.specs.Labels.{Piece, piece_of, piece_text, pieces, pieces_in, printed, printed_by}
use Rattle.xf_form_elements.specs.Parts.{host_parts, is_host, own_text}
use Rattle.xf_eval_context.specs.Texts.{Joins, behind, joined, own_printed, printed_in}

abbrev flat : List (List ℕ) → List ℕ
flat texts = flat_map (λ text. text) texts

-- one text and then another, where both are there
abbrev pub and_then : Option (List ℕ) → Option (List ℕ) → Option (List ℕ)
and_then None second = None
and_then (Some text) second = behind text second

each-append : (further : Piece → Option (List ℕ)) (xs ys : List Piece) → option_map flat (each further (xs ++ ys)) ≡ and_then (option_map flat (each further xs)) (option_map flat (each further ys))
each-append further [] ys = by (each further ys)
  where
    by : (o : Option (List (List ℕ))) → option_map flat o ≡ behind [] (option_map flat o)
    by None = refl
    by (Some texts) = refl
each-append further (x ∷ xs) ys = by (further x) (each further xs) (each further ys) (each further (xs ++ ys)) (each-append further xs ys)
  where
    by : (o : Option (List ℕ)) (p q r : Option (List (List ℕ))) → option_map flat r ≡ and_then (option_map flat p) (option_map flat q)
        → option_map flat (option.◌>>=◌ o (λ y. option.◌>>=◌ r (λ zs. Some (y ∷ zs)))) ≡ and_then (option_map flat (option.◌>>=◌ o (λ y. option.◌>>=◌ p (λ zs. Some (y ∷ zs))))) (option_map flat q)
    by None p q r e = refl
    by (Some t) None q None e = refl
    by (Some t) None q (Some rs) e = cc e
    by (Some t) (Some ps) None None e = refl
    by (Some t) (Some ps) None (Some rs) e = cc e
    by (Some t) (Some ps) (Some qs) None e = cc e
    by (Some t) (Some ps) (Some qs) (Some rs) e =
        let same : flat rs ≡ flat ps ++ flat qs = some-same e in
        ap (λ l. Some (t ++ l)) same ∙ ap Some (sym (append_assoc t (flat ps) (flat qs)))
      where
        some-same : {X : Type 0} {a b : X} → Some a ≡ Some b → a ≡ b
        some-same i = cc i

module _ (f : Interface) (a : Around) (s : Inside) where
  abbrev text_of : Piece → Option (List ℕ)
  text_of = piece_text f a s

  pub none-joined : (most : ℕ) → joined f a s most [] ≡ Some []
  none-joined zero = refl
  none-joined (suc m) = refl

  pub none-further : (most : ℕ) (ps : List Part) → most ≡ 0 → joined f a s most ps ≡ Some []
  none-further most ps h = ap (λ k. joined f a s k ps) h

  -- what one part gives besides its own words
  abbrev inner : ℕ → Part → Option (List ℕ)
  inner m p = and_then (own_printed f a s p) (joined f a s m (host_parts f p))

  one-printed : (o : Option (List ℕ)) → option_map flat (option.◌>>=◌ o (λ y. option.◌>>=◌ (Some []) (λ ys. Some (y ∷ ys)))) ≡ and_then o (Some [])
  one-printed None = refl
  one-printed (Some t) = refl

  nothing : (m : ℕ) → Some [] ≡ behind [] (joined f a s m [])
  nothing m = sym (ap (behind []) (none-joined m))

  behind-none : (o : Option (List ℕ)) → o ≡ behind [] o
  behind-none None = refl
  behind-none (Some t) = refl

  by-sort : (m n : ℕ) (sort : Sort) → (element_at f n).sort ≡ sort
      → option_map flat (each text_of (piece_of f (pieces m f) n sort)) ≡ and_then (printed_in f a s n sort) (joined f a s m (if is_host sort then (element_at f n).parts else []))
  by-sort m n host e = behind-none (joined f a s m (element_at f n).parts)
  by-sort m n (inline x) e =
      one-printed (text_of (printed n))
      ∙ ap (λ t. and_then (printed_by a (context_in f a s (element_at f n)) (element_at f n).binding t) (Some [])) e
      ∙ ap (and_then (printed_in f a s n (inline x))) (sym (none-joined m))
  by-sort m n other e = nothing m
  by-sort m n group e = nothing m
  by-sort m n (switch k) e = nothing m
  by-sort m n (one_case b) e = nothing m
  by-sort m n (repeated k i) e = nothing m
  by-sort m n field e = nothing m
  by-sort m n (output x) e = nothing m
  by-sort m n (select x y) e = nothing m
  by-sort m n item e = nothing m
  by-sort m n itemset e = nothing m
  by-sort m n choices e = nothing m
  by-sort m n label e = nothing m
  by-sort m n (item_value x) e = nothing m
  by-sort m n (action h) e = nothing m

  one-part : (m : ℕ) (p : Part) → option_map flat (each text_of (pieces_in f (pieces m f) p)) ≡ behind (own_text p) (inner m p)
  one-part m (part.Text t) = ap (behind t) (nothing m)
  one-part m (part.Element n) = by-sort m n (element_at f n).sort refl ∙ behind-none (inner m (part.Element n))

  joined-cons : (m : ℕ) (p : Part) (rest : List Part) → joined f a s (suc m) (p ∷ rest) ≡ and_then (behind (own_text p) (inner m p)) (joined f a s (suc m) rest)
  joined-cons m p rest =
      each-append text_of (pieces_in f (pieces m f) p) (pieces (suc m) f rest)
      ∙ ap (λ o. and_then o (joined f a s (suc m) rest)) (one-part m p)

  joined-more : (most m : ℕ) (ps : List Part) (i : ℕ) (p : Part) → i < length ps → p ≡ get_or ps i p → most ≡ suc m
      → joined f a s most (drop i ps) ≡ and_then (behind (own_text p) (inner m p)) (joined f a s most (drop (i + 1) ps))
  joined-more most m ps i p l is more =
      ap (λ k. joined f a s k (drop i ps)) more ∙ ap (λ qs. joined f a s (suc m) qs) (drop_more ps i p l)
      ∙ ap (λ q. joined f a s (suc m) (q ∷ drop (i + 1) ps)) (sym is) ∙ joined-cons m p (drop (i + 1) ps)
      ∙ ap (λ k. and_then (behind (own_text p) (inner m p)) (joined f a s k (drop (i + 1) ps))) (sym more)

  -- ---- a step of the loop

  twice : (one two : List ℕ) (o : Option (List ℕ)) → behind one (behind two o) ≡ behind (one ++ two) o
  twice one two None = refl
  twice one two (Some t) = ap Some (sym (append_assoc one two t))

  some-only : {X : Type 0} {x y : X} → Some x ≡ Some y → x ≡ y
  some-only e = cc e

  none-behind : {X : Type 0} {x : X} {B : Type 0} → None ≡ Some x → B
  none-behind e = cc e

  -- all of a part came behind
  pub carried : (most m i : ℕ) (ps : List Part) (p : Part) (now mid further new : List ℕ) → i < length ps → p ≡ get_or ps i p → most ≡ suc m
      → mid ≡ now ++ own_text p → behind mid (own_printed f a s p) ≡ Some further → behind further (joined f a s m (host_parts f p)) ≡ Some new
      → behind now (joined f a s most (drop i ps)) ≡ behind new (joined f a s most (drop (i + 1) ps))
  carried most m i ps p now mid further new l is more own shows within =
      ap (behind now) (joined-more most m ps i p l is more)
      ∙ by (own_printed f a s p) (joined f a s m (host_parts f p)) (joined f a s most (drop (i + 1) ps)) shows within
    where
      by : (o q r : Option (List ℕ)) → behind mid o ≡ Some further → behind further q ≡ Some new → behind now (and_then (behind (own_text p) (and_then o q)) r) ≡ behind new r
      by None q r g h = none-behind g
      by (Some t) None r g h = none-behind h
      by (Some t) (Some u) r g h =
          twice now (own_text p ++ (t ++ u)) r
          ∙ ap (λ l. behind l r) (
          sym (append_assoc now (own_text p) (t ++ u)) ∙ ap (λ l. l ++ (t ++ u)) (sym own) ∙ sym (append_assoc mid t u)
          ∙ ap (λ l. l ++ u) (some-only g) ∙ some-only h)

  -- what a part prints, or what is in it, is too long
  pub long-printed : (most m i : ℕ) (ps : List Part) (p : Part) → i < length ps → p ≡ get_or ps i p → most ≡ suc m → own_printed f a s p ≡ None → joined f a s most (drop i ps) ≡ None
  long-printed most m i ps p l is more h =
      joined-more most m ps i p l is more
      ∙ ap (λ o. and_then (behind (own_text p) (and_then o (joined f a s m (host_parts f p)))) (joined f a s most (drop (i + 1) ps))) h

  pub long-inside : (most m i : ℕ) (ps : List Part) (p : Part) → i < length ps → p ≡ get_or ps i p → most ≡ suc m → joined f a s m (host_parts f p) ≡ None → joined f a s most (drop i ps) ≡ None
  long-inside most m i ps p l is more h =
      joined-more most m ps i p l is more
      ∙ ap (λ o. and_then (behind (own_text p) (and_then (own_printed f a s p) o)) (joined f a s most (drop (i + 1) ps))) h ∙ by (own_printed f a s p)
    where
      by : (o : Option (List ℕ)) → and_then (behind (own_text p) (and_then o None)) (joined f a s most (drop (i + 1) ps)) ≡ None
      by None = refl
      by (Some t) = refl

-- nothing comes behind
pub behind-none-is : (before : List ℕ) (o : Option (List ℕ)) → behind before o ≡ None → o ≡ None
behind-none-is before None e = refl
behind-none-is before (Some t) e = cc e

pub behind-end : (before : List ℕ) → behind before (Some []) ≡ Some before
behind-end before = ap Some (append-nil before)

-- where what a part gives is too long, so is the whole
pub joins-whole : (e : EvalFault) (before after first new : List ℕ) (given whole : Option (List ℕ)) → (given ≡ None → whole ≡ None) → Joins {X = Unit {0}} (Err e) before after given
    → Joins {X = Unit {0}} (Err e) first new whole
joins-whole fault.Memory before after first new given whole h j = tt
joins-whole fault.Long before after first new given whole h j = h j
