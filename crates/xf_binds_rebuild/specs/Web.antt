-- What the entries of a model ask of the data (XForms 1.1, section 4.3.1 and appendix C), as the table keeps it.
use Rattle.std.specs.Prelude.{ℕ, ◌^◌, Bool, true, false, List, [], nat_lt}
use Rattle.xf_def_forest.specs.Visit.{Visit, ancestors_of}
use Rattle.xf_def_model.specs.Rules.{Scope}
use Rattle.xf_def_model.specs.Applied.{Entry}
use Rattle.xf_def_model.specs.Entries.{is_computed, reads_of, looks_of}
use Rattle.xf_binds.specs.declared.web.Asks.{Asks}
use Rattle.xf_binds.specs.Asked.{asked_by_all}
use Rattle.xf_binds.specs.Kept.{Kept}
pub use Rattle.xf_binds.specs.Turns.{no_asks}

abbrev pub asks_by : Scope → List Visit → Entry → Bool → Asks
asks_by scope all e true = record { reads = reads_of scope all e; looks = looks_of scope all e; above = ancestors_of e.node all }
asks_by scope all e false = no_asks

-- what an entry asks, over the visits of a shape, and the ancestors of its node there; a type asks nothing
abbrev pub asks_of : Scope → List Visit → Entry → Asks
asks_of scope all e = asks_by scope all e (is_computed e)

-- ---- a limit that a form is held to, for the entries of all models together

abbrev pub edge_limit : ℕ
edge_limit = 2 ^ 23

abbrev pub is_over : List Kept → Bool
is_over table = nat_lt edge_limit (asked_by_all table)
