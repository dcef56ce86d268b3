-- The way down to an element is the way to its parent, and then the parent.
use Rattle.std.proofs.Common.{◌≡◌, ℕ, zero, suc, ◌<◌, ◌≤◌, List, [], ◌∷◌, ◌++◌, length, Option, Some, None, refl, ap, ◌∙◌, arith}
use Rattle.std.specs.Prelude.{reverse}
use Rattle.std.proofs.lemmas.List.{map-append, reverse-append}
use Rattle.xf_def_xpath.specs.Setting.{◌>>=◌}
use Rattle.xf_def_ui.specs.Interface.{Element, Interface}
use Rattle.xf_def_ui.specs.Elements.{element_at, above, ancestors, path_to, elements_on}
use Rattle.xf_def_ui.specs.Around.{Around}
use Rattle.xf_def_ui.specs.Context.{Inside, enter, entered, inside, free}
use Rattle.xf_controls.proofs.OptionLaws.{bind-some}

-- ---- ancestors

-- where no more are asked than there are, one more changes nothing
above-more : (k : ℕ) (f : Interface) (p : Option ℕ) → length (above (suc k) f p) ≤ k → above k f p ≡ above (suc k) f p
above-more zero f None h = refl
above-more zero f (Some n) h = absurd (omega (arith, h))
above-more (suc k) f None h = refl
above-more (suc k) f (Some n) h = ap (λ l. n ∷ l) (above-more k f (element_at f n).parent (omega (arith, h)))

above-child : (size : ℕ) (f : Interface) (n : ℕ) → length (above size f (element_at f n).parent) < size → above size f (Some n) ≡ n ∷ above size f (element_at f n).parent
above-child zero f n h = absurd (omega (arith, h))
above-child (suc k) f n h = ap (λ l. n ∷ l) (above-more k f (element_at f n).parent (omega (arith, h)))

pub ancestors-child : (f : Interface) (n m : ℕ) → (element_at f m).parent ≡ Some n → length (ancestors f n) < length f.elements → ancestors f m ≡ n ∷ ancestors f n
ancestors-child f n m e h = ap (above (length f.elements) f) e ∙ above-child (length f.elements) f n h

path-child : (f : Interface) (n m : ℕ) → ancestors f m ≡ n ∷ ancestors f n → path_to f m ≡ path_to f n ++ n ∷ []
path-child f n m e = ap reverse e ∙ reverse-append (n ∷ []) (ancestors f n)

-- ---- what they give

entered-more : (f : Interface) (a : Around) (s : Inside) (es : List Element) (e : Element) → entered f a s (es ++ e ∷ []) ≡ (entered f a s es >>= λ t. enter f a t e)
entered-more f a s [] e = bind-some (enter f a s e)
entered-more f a s (x ∷ es) e = by (λ t. entered-more f a t es e) (enter f a s x)
  where
    by : ((t : Inside) → entered f a t (es ++ e ∷ []) ≡ (entered f a t es >>= λ u. enter f a u e)) → (m : Option Inside) → (m >>= λ t. entered f a t (es ++ e ∷ [])) ≡ ((m >>= λ t. entered f a t es) >>= λ t. enter f a t e)
    by h None = refl
    by h (Some t) = h t

abbrev pub root_inside : List ℕ → Inside
root_inside rows = record { model = 0; place = free; rows = rows }

pub inside-child : (f : Interface) (a : Around) (rows : List ℕ) (n m : ℕ) → ancestors f m ≡ n ∷ ancestors f n → inside f a rows m ≡ (inside f a rows n >>= λ s. enter f a s (element_at f n))
inside-child f a rows n m e =
    ap (λ ns. entered f a (root_inside rows) (elements_on f ns)) (path-child f n m e)
    ∙ ap (entered f a (root_inside rows)) (map-append (element_at f) (path_to f n) (n ∷ []))
    ∙ entered-more f a (root_inside rows) (elements_on f (path_to f n)) (element_at f n)
