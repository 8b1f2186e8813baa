-- Runs of places whose hashes have one remainder by 64.
use Rattle.std.proofs.Common.{◌≡◌, ℕ, ◌+◌, ◌%◌, ◌<◌, ◌≤◌, ◌∙◌, List, length, map, get_or, set, inl, inr, ap, sym, subst, arith}
use Rattle.std.specs.Prelude.{min}
use Rattle.std.proofs.lemmas.Bool.{cases_eq}
use Rattle.std.proofs.lemmas.List.{get_or-set_same, get_or-set_other, get_or_default, length-map}
use Rattle.lin_model.specs.KeyAtom.{PlainKeyAtom}
use Rattle.key_tree.specs.declared.runs.Run.{Run}
use Rattle.key_tree.specs.declared.runs.Runs.{Runs}
use Rattle.key_tree.specs.Asked.{atom_hash}
use Rattle.key_tree.specs.Runs.{run_first, run_end, AreRuns, IsWithRun, IsRunOf}
use Rattle.key_tree.proofs.FormLemmas.{hash_at}

-- runs without places are those of no hash
pub runs_none : (hashes : List ℕ) (runs : Runs) → ((hash : ℕ) → run_end runs hash ≡ 0) → AreRuns hashes runs 0
runs_none hashes runs empty = record {
  first = λ p d lt. absurd (omega (arith, lt));
  end = λ p d lt. absurd (omega (arith, lt));
  within = λ hash. omega (arith, empty hash);
}

module _ (hashes : List ℕ) (old new : Runs) (n hash e : ℕ) (so_far : AreRuns hashes old n) (lt : n < length hashes)
    (is : hash ≡ get_or hashes n e) (more : IsWithRun old n hash new) where
  -- the run of the hash begins at the new place or before it
  first_here : (other : ℕ) → other % 64 ≡ hash % 64 → run_first new other ≡ min (run_first old hash) n
  first_here other same =
      let first : ℕ = min (run_first old hash) n in
      ap (λ (firsts : List ℕ). get_or firsts (other % 64) 0) more.firsts
      ∙ (ap (λ (i : ℕ). get_or (set old.firsts (hash % 64) first) i 0) same
      ∙ get_or-set_same old.firsts (hash % 64) first 0 (omega (arith, more.count_firsts)))

  -- and ends behind it
  end_here : (other : ℕ) → other % 64 ≡ hash % 64 → run_end new other ≡ n + 1
  end_here other same =
      ap (λ (ends : List ℕ). get_or ends (other % 64) 0) more.ends
      ∙ (ap (λ (i : ℕ). get_or (set old.ends (hash % 64) (n + 1)) i 0) same
      ∙ get_or-set_same old.ends (hash % 64) (n + 1) 0 (omega (arith, more.count_ends)))

  -- no run begins later than before
  first_falls : (other : ℕ) → run_first new other ≤ run_first old other
  first_falls other = elim (cases_eq (other % 64) (hash % 64)) [
    | inl same ↦
        let was : run_first old other ≡ run_first old hash = ap (λ (i : ℕ). get_or old.firsts i 0) same in
        omega (arith, first_here other same, was)
    | inr differs ↦
        let stays : run_first new other ≡ run_first old other =
        ap (λ (firsts : List ℕ). get_or firsts (other % 64) 0) more.firsts
        ∙ get_or-set_other old.firsts (hash % 64) (other % 64) (min (run_first old hash) n) 0 differs in
        omega (arith, stays)
  ]

  -- each run ends where it did, or behind the new place
  end_is : (other : ℕ) → (run_end old other ≤ run_end new other) × (run_end new other ≤ n + 1)
  end_is other = elim (cases_eq (other % 64) (hash % 64)) [
    | inl same ↦ (omega (arith, end_here other same, so_far.within other), omega (arith, end_here other same))
    | inr differs ↦
        let stays : run_end new other ≡ run_end old other =
        ap (λ (ends : List ℕ). get_or ends (other % 64) 0) more.ends
        ∙ get_or-set_other old.ends (hash % 64) (other % 64) (n + 1) 0 differs in
        (omega (arith, stays), omega (arith, stays, so_far.within other))
  ]

  -- the hash of the new place
  hash_here : (place d : ℕ) → place ≡ n → get_or hashes place d ≡ hash
  hash_here place d last = ap (λ (i : ℕ). get_or hashes i d) last ∙ (get_or_default hashes n d e lt ∙ sym is)

  -- one place more
  pub runs_more : AreRuns hashes new (n + 1)
  runs_more = record {
    first = λ place d below. elim (cases_eq place n) [
      | inl last ↦
          let here = first_here (get_or hashes place d) (ap (λ (h : ℕ). h % 64) (hash_here place d last)) in
          omega (arith, here, last)
      | inr earlier ↦ omega (arith, first_falls (get_or hashes place d), so_far.first place d (omega (arith, below, earlier)))
    ];
    end = λ place d below. elim (cases_eq place n) [
      | inl last ↦
          let here = end_here (get_or hashes place d) (ap (λ (h : ℕ). h % 64) (hash_here place d last)) in
          omega (arith, here, last)
      | inr earlier ↦ omega (
        arith,
        (end_is (get_or hashes place d)).0,
        so_far.end place d (omega (arith, below, earlier)),
      )
    ];
    within = λ other. (end_is other).1;
  }

-- the run of a hash has the places of all atoms whose forms have it
pub run_of : (key : List PlainKeyAtom) (hashes : List ℕ) (runs : Runs) (hash : ℕ) (run : Run)
    → hashes ≡ map atom_hash key → AreRuns hashes runs (length hashes) → run.first ≡ min (run_first runs hash) (run_end runs hash)
    → run.end ≡ run_end runs hash → IsRunOf key hash run
run_of key hashes runs hash run hashed are first end =
    let count : length hashes ≡ length key = ap length hashed ∙ length-map key atom_hash in
    record {
      first = λ place d lt same.
          let begins : run_first runs hash ≤ place =
          subst (λ (h : ℕ). run_first runs h ≤ place) (hash_at key hashes place d hashed lt ∙ same)
          (are.first place (atom_hash d) (omega (arith, lt, count))) in
          omega (arith, begins, first);
      end = λ place d lt same.
          let ends : place < run_end runs hash =
          subst (λ (h : ℕ). place < run_end runs h) (hash_at key hashes place d hashed lt ∙ same)
          (are.end place (atom_hash d) (omega (arith, lt, count))) in
          omega (arith, ends, end);
      order = omega (arith, first, end);
      within = omega (arith, are.within hash, end, count);
    }
