-- What stands for a node, in the list and among the visits.
use Rattle.std.proofs.Common.{◌≡◌, ℕ, ◌==◌, Bool, true, false, cond, ◌||◌, List, [], ◌∷◌, Option, Some, None, option_map, refl, sym, ap, ◌∙◌}
use Rattle.xf_def_forest.specs.declared.content.Node.{Node}
use Rattle.xf_def_forest.specs.declared.content.Content.{Content}
use Rattle.xf_def_forest.specs.Forest.{Forest, has_number, node_at, content_at}
use Rattle.xf_def_forest.specs.Visit.{Visit, visit, visits, visits_from, still_above}
use Rattle.xf_def_forest.specs.WellFormed.{HasTrees}
use Rattle.xf_def_forest.proofs.OrderLaws.{visits-different}
use Rattle.xf_def_xpath.specs.Asked.{found}
use Rattle.xf_def_xpath.specs.Agree.{numbers_of, are_apart}
use Rattle.xf_def_xpath.proofs.VisitFacts.{some-same, none-some}
use Rattle.xf_def_xpath.proofs.ForestVisits.{Each, each-map, self-found}

pub content-seen : (n : ℕ) (above xs : List Node) → option_map (λ (v : Visit). v.content) (found n (visits_from above xs)) ≡ content_at n xs
content-seen n above [] = refl
content-seen n above (x ∷ xs) = by (x.number == n) (content-seen n (x ∷ still_above x.depth above) xs)
  where
    rest : List Visit
    rest = visits_from (x ∷ still_above x.depth above) xs

    by : (b : Bool) → option_map (λ (v : Visit). v.content) (found n rest) ≡ content_at n xs
        → option_map (λ (v : Visit). v.content) (cond b (Some (visit above x)) (found n rest)) ≡ option_map (λ (y : Node). y.content) (cond b (Some x) (node_at n xs))
    by true h = refl
    by false h = h

-- the visit of a node with a content
pub record Seen (n : ℕ) (content : Content) (all : List Visit) : Type 0 where
  pub visit : Visit
  pub at : found n all ≡ Some visit
  pub same : visit.content ≡ content

pub seen : (n : ℕ) (content : Content) (nodes : List Node) → content_at n nodes ≡ Some content → Seen n content (visits nodes)
seen n content nodes h = by (found n (visits nodes)) refl (content-seen n [] nodes ∙ h)
  where
    by : (o : Option Visit) → found n (visits nodes) ≡ o → option_map (λ (v : Visit). v.content) o ≡ Some content → Seen n content (visits nodes)
    by None e i = none-some i
    by (Some x) e i = record { visit = x; at = e; same = some-same i }

-- a live node has a content
pub live-content : (n : ℕ) (nodes : List Node) → has_number n nodes ≡ true → content_at n nodes ≡ None → false ≡ true
live-content n [] h e = h
live-content n (x ∷ xs) h e = by (x.number == n) (live-content n xs) h e
  where
    by : (b : Bool) → (has_number n xs ≡ true → content_at n xs ≡ None → false ≡ true) → (b || has_number n xs) ≡ true → option_map (λ (y : Node). y.content) (cond b (Some x) (node_at n xs)) ≡ None → false ≡ true
    by true later i j = none-some (sym j)
    by false later i j = later i j

pub apart : (forest : Forest) → HasTrees forest → are_apart (numbers_of (visits forest.nodes)) ≡ true
apart forest sound = visits-different forest sound

-- the content of a visit is that of its node
abbrev pub Linked : List Node → Visit → Type 0
Linked nodes v = content_at v.number nodes ≡ Some v.content

pub all-linked : (forest : Forest) → HasTrees forest → Each (Linked forest.nodes) (visits forest.nodes)
all-linked forest sound =
    let all = visits forest.nodes in
    each-map (λ v. found v.number all ≡ Some v) (Linked forest.nodes) all (λ v e. sym (content-seen v.number [] forest.nodes) ∙ ap (option_map (λ (z : Visit). z.content)) e) (self-found all (apart forest sound))
