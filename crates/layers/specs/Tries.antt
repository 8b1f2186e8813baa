-- The keys of a layer as its tries hold them, each under the place of its entry, and how many prefixes they have.
use Rattle.std.specs.Prelude.{◌≡◌, ℕ, ◌+◌, ◌≤◌, All, List, [], ◌∷◌, length}
use Rattle.cert_check.specs.declared.entry.Entry.{Entry}
use Rattle.cert_check.specs.declared.entry.Entry.TheVariants.{Sat, Unsat}
use Rattle.cert_check.specs.Decides.{IsChecked}
use Rattle.cert_check.specs.Machine.{max_entries}
use Rattle.key_tree.specs.Tree.{Pair}
use Rattle.key_tree.specs.Held.{HavePrefixes}

-- the satisfied keys among the entries, each under its place, where the first entry's place is n
abbrev pub satisfied_keys : ℕ → List Entry → List Pair
satisfied_keys n [] = []
satisfied_keys n (Sat e ∷ es) = record { key = e.key; number = n } ∷ satisfied_keys (n + 1) es
satisfied_keys n (Unsat e ∷ es) = satisfied_keys (n + 1) es

-- the cores among them
abbrev pub cores : ℕ → List Entry → List Pair
cores n [] = []
cores n (Sat e ∷ es) = cores (n + 1) es
cores n (Unsat e ∷ es) = record { key = e.key; number = n } ∷ cores (n + 1) es

-- what a layer keeps: it isn't too long, these pairs are those of its satisfied keys and these of its cores, and each of
-- its entries is checked
pub record IsLayer (entries : List Entry) (satisfied refuted : List Pair) : Type 0 where
  pub few : length entries ≤ max_entries
  pub keys : satisfied ≡ satisfied_keys 0 entries
  pub cores_are : refuted ≡ cores 0 entries
  pub checked : All IsChecked entries

-- so many lists, other than the empty one, are prefixes of the layer's satisfied keys or of its cores, those that are both
-- counted twice
pub record LayerHasNodes (layer : List Entry) (nodes : ℕ) : Type 0 where
  pub satisfied : ℕ
  pub refuted : ℕ
  pub of_satisfied : HavePrefixes (satisfied_keys 0 layer) satisfied
  pub of_refuted : HavePrefixes (cores 0 layer) refuted
  pub together : nodes ≡ satisfied + refuted

-- so many the layers have together, each counted by itself
abbrev pub LayersHaveNodes : List (List Entry) → ℕ → Type 0
LayersHaveNodes [] nodes = nodes ≡ 0
LayersHaveNodes (layer ∷ layers) nodes =
    (here : ℕ) × (there : ℕ) × LayerHasNodes layer here × LayersHaveNodes layers there × (nodes ≡ here + there)
