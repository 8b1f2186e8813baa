-- The first fault of an atom's line.
use Rattle.std.proofs.Common.{◌≡◌, ℕ, ◌<◌, ◌≤◌, Bool, false, List, [], ◌∷◌, ◌++◌, Some, refl, sym, ap, subst, ◌∙◌, inl, inr}
use Rattle.std.proofs.Common.{◌⊎◌}
use Rattle.std.proofs.lemmas.List.{map-append}
use Rattle.lin_model.specs.Lists.{parted}
use Rattle.lin_model.specs.declared.form.FormTerm.{FormTerm}
use Rattle.lin_text.specs.declared.atom_step.State.{State}
use Rattle.lin_text.specs.declared.atom_step.State.TheVariants as states
use Rattle.lin_text.specs.declared.fault.TextKind.{TextKind}
use Rattle.lin_text.specs.Pieces.{PlainToken, pieces, AreTokens}
use Rattle.lin_text.specs.Kinds.{rank}
use Rattle.lin_text.specs.KeyAtomTexts.{BeginsUncanonical, StandsInAtom, StandsAmong, HasAtomFault}
use Rattle.lin_text.specs.AtomSteps.{run}
use Rattle.lin_text.proofs.Positions.{tokens-later}
use Rattle.lin_text.proofs.AtomClean.{no_stand}
use Rattle.lin_text.proofs.AtomCounts.{begun}
use Rattle.lin_text.proofs.AtomRefused.{FirstStands}

pub pieces-split : (front after : List PlainToken) (t : PlainToken)
    → pieces (front ++ t ∷ after) ≡ pieces front ++ t.piece ∷ pieces after
pieces-split front after t = map-append (λ (u : PlainToken). u.piece) front (t ∷ after)

-- the fault at a token before which none stands
pub first_of : (p : Bool) (bytes : List ℕ) (at : ℕ) (tokens used after : List PlainToken) (t : PlainToken)
    (kind : TextKind) → AreTokens p bytes at tokens → tokens ≡ used ++ t ∷ after
    → FirstStands (pieces used) t.piece (pieces after) kind
    → ((front mid : List PlainToken) (u : PlainToken) → used ≡ front ++ u ∷ mid → (k : TextKind)
    → StandsInAtom (pieces front) u.piece (pieces (mid ++ t ∷ after)) k → ⊥)
    → HasAtomFault p bytes at kind t.from
first_of p bytes at tokens used after t kind are split first clean = record {
  tokens = tokens;
  are = are;
  first = record {
    stands = record {
      front = used;
      token = t;
      after = after;
      in_line = split;
      place = refl;
      stands = first.stands;
    };
    least = least;
  };
} where
  least : (k : TextKind) (place : ℕ) → StandsAmong tokens k place
      → (t.from < place) ⊎ ((t.from ≡ place) × (rank kind ≤ rank k))
  least k place s =
      subst (λ (n : ℕ). (t.from < n) ⊎ ((t.from ≡ n) × (rank kind ≤ rank k))) (sym s.place)
      (elim (parted used after t s.front s.after s.token (sym split ∙ s.in_line)) [
        | inl later ↦
            inl (tokens-later p bytes at tokens used later.0 s.after t s.token are
            (split ∙ ap (λ (us : List PlainToken). used ++ t ∷ us) later.2))
        | inr other ↦ elim other [
          | inl same ↦ inr (
            ap (λ (u : PlainToken). u.from) same.1,
            first.least k (subst (λ (us : List PlainToken). StandsInAtom (pieces us) t.piece (pieces after) k)
                (sym same.0)
                (subst (λ (u : PlainToken). StandsInAtom (pieces s.front) u.piece (pieces after) k) (sym same.1)
                (subst (λ (us : List PlainToken). StandsInAtom (pieces s.front) s.token.piece (pieces us) k)
                (sym same.2) s.stands))),
          )
          | inr earlier ↦
              absurd (clean s.front earlier.0 s.token earlier.1 k
              (subst (λ (us : List PlainToken). StandsInAtom (pieces s.front) s.token.piece (pieces us) k)
              earlier.2 s.stands))
        ]
      ])

-- no fault stands at the tokens that were read, unless what stands there isn't canonical
pub clean : (tokens used rest : List PlainToken) (terms : List FormTerm) (s : State) → tokens ≡ used ++ rest
    → run [] (states.Item false) (pieces used) ≡ Some (terms, s) → begun terms s ≤ 64
    → (BeginsUncanonical (pieces tokens) → ⊥)
    → (front mid : List PlainToken) (u : PlainToken) → used ≡ front ++ u ∷ mid → (k : TextKind)
    → StandsInAtom (pieces front) u.piece (pieces (mid ++ rest)) k → ⊥
clean tokens used rest terms s split e few canonical front mid u is k h =
    no_stand (pieces front) u.piece (pieces mid) (pieces (mid ++ rest)) terms s
    (ap (run [] (states.Item false)) (sym (ap pieces is ∙ pieces-split front mid u)) ∙ e) few (first front is) k h
  where
    first : (f : List PlainToken) → used ≡ f ++ u ∷ mid → pieces f ≡ []
        → BeginsUncanonical (u.piece ∷ pieces (mid ++ rest)) → ⊥
    first [] begins none b =
        canonical (subst BeginsUncanonical (sym (ap pieces (split
        ∙ ap (λ (us : List PlainToken). us ++ rest) begins))) b)
    first (f ∷ fs) begins none b = absurd (cc)

-- so the first fault is at the token behind them
pub first_behind : (p : Bool) (bytes : List ℕ) (at : ℕ) (tokens used after : List PlainToken) (t : PlainToken)
    (kind : TextKind) (terms : List FormTerm) (s : State) → AreTokens p bytes at tokens → tokens ≡ used ++ t ∷ after
    → FirstStands (pieces used) t.piece (pieces after) kind
    → run [] (states.Item false) (pieces used) ≡ Some (terms, s) → begun terms s ≤ 64
    → (BeginsUncanonical (pieces tokens) → ⊥) → HasAtomFault p bytes at kind t.from
first_behind p bytes at tokens used after t kind terms s are split first e few canonical =
    first_of p bytes at tokens used after t kind are split first
    (clean tokens used (t ∷ after) terms s split e few canonical)
