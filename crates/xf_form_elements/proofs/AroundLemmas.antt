-- One element more around.
use Rattle.std.proofs.Common.{◌≡◌, ℕ, suc, Bool, true, false, cond, List, [], ◌∷◌, ◌++◌, reverse, Option, Some, refl, sym, ap, ◌∙◌, append_assoc}
use Rattle.std.specs.Prelude.{filter}
use Rattle.std.proofs.lemmas.List.{reverse-append}
use Rattle.std.proofs.lemmas.List.Elements.{filter-append}
use Rattle.xf_def_ui.specs.Interface.{Interface, host}
use Rattle.xf_def_ui.specs.Elements.{above, element_at}
use Rattle.xf_form_elements.specs.declared.around.Container.{Container}
use Rattle.xf_form_elements.specs.declared.around.Container.TheVariants as container
use Rattle.xf_form_elements.specs.Around.{is_of, one_where}

pub above-step : (f : Interface) (most k n : ℕ) → most ≡ suc k → above most f (Some n) ≡ n ∷ above k f (element_at f n).parent
above-step f most k n h = ap (λ d. above d f (Some n)) h

-- an element, and then those around it, go behind others
pub pushes : (f : Interface) (most k n : ℕ) (old mid new : List ℕ) → most ≡ suc k → mid ≡ old ++ n ∷ [] → new ≡ mid ++ above k f (element_at f n).parent → new ≡ old ++ above most f (Some n)
pushes f most k n old mid new deep first last =
    let rest = above k f (element_at f n).parent in
    last ∙ ap (λ l. l ++ rest) first ∙ append_assoc old (n ∷ []) rest ∙ ap (λ l. old ++ l) (sym (above-step f most k n deep))

pub last-first : (n : ℕ) (ns : List ℕ) → reverse (n ∷ ns) ≡ reverse ns ++ n ∷ []
last-first n ns = reverse-append (n ∷ []) ns

pub reverse-above : (f : Interface) (most k n : ℕ) → most ≡ suc k → reverse (above most f (Some n)) ≡ reverse (above k f (element_at f n).parent) ++ n ∷ []
reverse-above f most k n h = ap reverse (above-step f most k n h) ∙ last-first n (above k f (element_at f n).parent)

one : (b : Bool) (n : ℕ) → cond b (n ∷ []) [] ≡ one_where b n
one true n = refl
one false n = refl

-- those around, and then the element, go behind others, where they pass the test
pub pushes-last : (p : ℕ → Bool) (f : Interface) (most k n : ℕ) (parent : Option ℕ) (old mid new : List ℕ) → most ≡ suc k → parent ≡ Some n
    → mid ≡ old ++ filter p (reverse (above k f (element_at f n).parent)) → new ≡ mid ++ one_where (p n) n → new ≡ old ++ filter p (reverse (above most f parent))
pushes-last p f most k n parent old mid new deep here first last =
    let outer = reverse (above k f (element_at f n).parent) in
    let told : filter p (reverse (above most f parent)) ≡ filter p outer ++ filter p (n ∷ []) =
    ap (λ q. filter p (reverse (above most f q))) here ∙ ap (filter p) (reverse-above f most k n deep) ∙ filter-append p outer (n ∷ []) in
    last ∙ ap (λ l. l ++ one_where (p n) n) first ∙ append_assoc old (filter p outer) (one_where (p n) n)
    ∙ ap (λ l. old ++ (filter p outer ++ l)) (sym (one (p n) n)) ∙ ap (λ l. old ++ l) (sym told)

pub none-contained : (c : Container) → is_of c host ≡ false
none-contained container.Repeat = refl
none-contained container.Switch = refl
