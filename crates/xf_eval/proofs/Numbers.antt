-- What the functions of numbers make of a set, from the numbers of its nodes.
use Rattle.std.proofs.Common.{◌≡◌, ℕ, List, [], ◌∷◌, map, length, Option, Some, None, option_map, refl, sym, ap, ◌∙◌, suc}
use Rattle.xf_def_forest.specs.declared.content.Node.{Node}
use Rattle.xf_num.specs.Number.{quotient}
use Rattle.xf_num.specs.Written.{read_at}
use Rattle.xf_def_values.specs.Conversions.{Decimal, whole}
use Rattle.xf_def_xpath.specs.declared.value.Value.TheVariants.{Number}
use Rattle.xf_def_xpath.specs.Setting.{◌>>=◌, each}
use Rattle.xf_def_xpath.specs.Conversions.{string_of_node, strings_of}
use Rattle.xf_def_xpath.specs.Functions.{average, extreme, greater, lesser, of_numbers, total}
use Rattle.xf_eval.specs.declared.kinds.Kind.{Kind}
use Rattle.xf_eval.specs.declared.kinds.Kind.TheVariants as kind
use Rattle.xf_eval.specs.OfNodes.{set_worth}
use Rattle.xf_eval.specs.Texts.{combined, number_at}
use Rattle.xf_eval.specs.Worth.{bare_setting, setting_in}
use Rattle.xf_eval.proofs.Lists.{each-mapped}

pub numbers-made : (d : ℕ) (made : List Decimal → Decimal) (nodes : List Node) (ns : List ℕ) → of_numbers (setting_in d nodes) made ns ≡ option_map Number (option_map made (each (number_at d nodes) ns))
numbers-made d made nodes ns =
    by (strings_of (bare_setting nodes) ns)
    ∙ ap (λ m. option_map Number (option_map made m)) (sym (each-mapped (string_of_node (bare_setting nodes)) (read_at d) ns))
  where
    by : (m : Option (List (List ℕ))) → option_map (λ texts. Number (made (map (read_at d) texts))) m ≡ option_map Number (option_map made (option_map (map (read_at d)) m))
    by None = refl
    by (Some texts) = refl

each-length : {A B : Type 0} (made : A → Option B) (ns : List A) (ks : List B) → each made ns ≡ Some ks → length ks ≡ length ns
each-length made [] ks e = let i : [] ≡ ks = cc e in ap length (sym i)
each-length {B = B} made (n ∷ ns) ks e = by (made n) (each made ns) (each-length made ns) e
  where
    by : (m : Option B) (rest : Option (List B)) → ((js : List B) → rest ≡ Some js → length js ≡ length ns) → (m >>= λ y. rest >>= λ ys. Some (y ∷ ys)) ≡ Some ks → length ks ≡ suc (length ns)
    by None rest f i = cc i
    by (Some y) None f i = cc i
    by (Some y) (Some ys) f i = let j : y ∷ ys ≡ ks = cc i in ap length (sym j) ∙ ap suc (f ys refl)

pub average-made : (d : ℕ) (m : Option (List Decimal)) (count : ℕ) (sum : Decimal) → ((ks : List Decimal) → m ≡ Some ks → length ks ≡ count) → option_map total m ≡ Some sum → option_map (average d) m ≡ Some (quotient d sum (whole d count))
average-made d None count sum f e = cc e
average-made d (Some ks) count sum f e = let i : total ks ≡ sum = cc e in ap Some (ap (λ k. quotient d k (whole d (length ks))) i ∙ ap (λ n. quotient d sum (whole d n)) (f ks refl))

pub average-of : (d : ℕ) (nodes : List Node) (ns : List ℕ) (sum : Decimal) → option_map total (each (number_at d nodes) ns) ≡ Some sum → option_map (average d) (each (number_at d nodes) ns) ≡ Some (quotient d sum (whole d (length ns)))
average-of d nodes ns sum = average-made d (each (number_at d nodes) ns) (length ns) sum (each-length (number_at d nodes) ns)

-- where one is too long
pub none-made : {A B C : Type 0} (f : A → B) (g : A → C) (m : Option A) → option_map f m ≡ None → option_map g m ≡ None
none-made f g None e = refl
none-made f g (Some x) e = cc e

-- ---- by the function

pub adding-worth : (d : ℕ) (k : Kind) (nodes : List Node) (ns : List ℕ) → k ≡ kind.Adding → set_worth k (setting_in d nodes) ns ≡ option_map Number (option_map total (each (number_at d nodes) ns))
adding-worth d k nodes ns e = ap (λ f. set_worth f (setting_in d nodes) ns) e ∙ numbers-made d total nodes ns

pub averaging-worth : (d : ℕ) (k : Kind) (nodes : List Node) (ns : List ℕ) → k ≡ kind.Averaging → set_worth k (setting_in d nodes) ns ≡ option_map Number (option_map (average d) (each (number_at d nodes) ns))
averaging-worth d k nodes ns e = ap (λ f. set_worth f (setting_in d nodes) ns) e ∙ numbers-made d (average d) nodes ns

pub greatest-worth : (d : ℕ) (k : Kind) (nodes : List Node) (ns : List ℕ) → k ≡ kind.Greatest → set_worth k (setting_in d nodes) ns ≡ option_map Number (option_map (extreme (combined k)) (each (number_at d nodes) ns))
greatest-worth d k nodes ns e =
    ap (λ f. set_worth f (setting_in d nodes) ns) e ∙ numbers-made d (extreme greater) nodes ns
    ∙ ap (λ f. option_map Number (option_map (extreme (combined f)) (each (number_at d nodes) ns))) (sym e)

pub least-worth : (d : ℕ) (k : Kind) (nodes : List Node) (ns : List ℕ) → k ≡ kind.Least → set_worth k (setting_in d nodes) ns ≡ option_map Number (option_map (extreme (combined k)) (each (number_at d nodes) ns))
least-worth d k nodes ns e =
    ap (λ f. set_worth f (setting_in d nodes) ns) e ∙ numbers-made d (extreme lesser) nodes ns
    ∙ ap (λ f. option_map Number (option_map (extreme (combined f)) (each (number_at d nodes) ns))) (sym e)
