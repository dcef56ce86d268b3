-- How a change spreads (XForms 1.1, section 4.3.2 and appendix C): from nodes with another text to the entries that read them, and from a
-- calculate among these to its node and the ancestors of that.
use Rattle.std.specs.Prelude.{ℕ, suc, zero, ◌≡◌, Bool, true, false, ◌&&◌, ◌||◌, List, ◌∷◌, ◌++◌, length}
use Rattle.std.specs.List.{list_any}
use Rattle.xf_def_forest.specs.Visit.{Visit, has, ancestors_of}
use Rattle.xf_def_model.specs.Applied.{Entry}
use Rattle.xf_binds.specs.declared.web.Asks.{Asks}
use Rattle.xf_recalc_pertinent.specs.Places.{gives_at, is_marked, reads_at}

-- ---- nodes

-- more stand behind those that stood
abbrev pub Grown : List ℕ → List ℕ → Type 0
Grown old new = (added : List ℕ) × (new ≡ old ++ added)

-- those of the test are added where they are not there
pub record Hears (old new : List ℕ) (more : ℕ → Bool) : Type 0 where
  pub grown : Grown old new
  pub members : (n : ℕ) → has n new ≡ (more n || has n old)

-- the node or one below it has another text
abbrev pub is_touched : List Visit → List ℕ → ℕ → Bool
is_touched all texts n = list_any (λ m. has n (m ∷ ancestors_of m all)) texts

-- the nodes that the marked entries before a place give
abbrev pub gives_before : List Entry → List Asks → List Bool → ℕ → ℕ → Bool
gives_before entries web marks zero n = false
gives_before entries web marks (suc place) n = (is_marked marks place && gives_at entries web place n) || gives_before entries web marks place n

-- ---- entries

-- an entry of the test gives the node
abbrev pub IsGiven : List Entry → List Asks → (ℕ → Bool) → ℕ → Type 0
IsGiven entries web test n = (place : ℕ) × (test place ≡ true) × (gives_at entries web place n ≡ true)

-- the entries of the test are marked, and what they give is heard
pub record Reaches (entries : List Entry) (web : List Asks) (old new : List Bool) (old_heard heard : List ℕ) (test : ℕ → Bool) : Type 0 where
  pub size : length new ≡ length old
  pub marks : (place : ℕ) → is_marked new place ≡ (test place || is_marked old place)
  pub grown : Grown old_heard heard
  pub given : (place n : ℕ) → test place ≡ true → is_marked old place ≡ false → gives_at entries web place n ≡ true → has n heard ≡ true
  pub only : (n : ℕ) → has n heard ≡ true → has n old_heard ≡ false → IsGiven entries web test n

-- ---- the least

-- a set of entries and one of nodes, closed under all this
pub record IsClosed (entries : List Entry) (web : List Asks) (begun touched : ℕ → Bool) (set hears : ℕ → Bool) : Type 0 where
  pub starts : (place : ℕ) → begun place ≡ true → set place ≡ true
  pub touches : (n : ℕ) → touched n ≡ true → hears n ≡ true
  pub gives : (place n : ℕ) → set place ≡ true → gives_at entries web place n ≡ true → hears n ≡ true
  pub reads : (place n : ℕ) → hears n ≡ true → reads_at entries web place n ≡ true → set place ≡ true

-- they are in each that is closed
pub record IsWithin (marks : List Bool) (heard : List ℕ) (set hears : ℕ → Bool) : Type 0 where
  pub places : (place : ℕ) → is_marked marks place ≡ true → set place ≡ true
  pub nodes : (n : ℕ) → has n heard ≡ true → hears n ≡ true

-- the marks and these nodes are closed, and the least that are
pub record IsSpread (entries : List Entry) (web : List Asks) (begun touched : ℕ → Bool) (marks : List Bool) (heard : List ℕ) : Type 0 where
  pub size : length marks ≡ length entries
  pub closed : IsClosed entries web begun touched (is_marked marks) (λ n. has n heard)
  pub least : (set hears : ℕ → Bool) → IsClosed entries web begun touched set hears → IsWithin marks heard set hears
