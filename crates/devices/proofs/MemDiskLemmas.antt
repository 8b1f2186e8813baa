-- What the calls of a disk in memory do, as what they do to a disk.
use Rattle.std.proofs.Common.{◌≡◌, inl, inr, ⊎_elim, ℕ, ◌≤◌, List, ◌∷◌, length, take, Some, refl, sym, ap}
use Rattle.std.proofs.Common.{◌∙◌, subst, arith, length-take}
use Rattle.outside.specs.Crash.{patched, Torn, TearsAt, Synced, Follows, Looks, GoesOn}
use Rattle.outside.specs.TornFacts.{Torn-refl, Torn-patched}
use Rattle.devices.specs.PastWrite.{write_over}
use Rattle.devices.specs.Steps.{before_step, MayLeave, MightHaveLeft}
use Rattle.devices.specs.MemDisk.{MemDiskState, mem_disk}
use Rattle.devices.specs.MemDiskCalls.{KeepsFile, HasPiece, WritesFront, Syncs}
use Rattle.devices.specs.MemDiskFacts.{MayLeave-file}
use Rattle.devices.specs.declared.step.Step.{Step}
use Rattle.devices.specs.declared.step.Step.TheVariants.{Write, Sync}
use Rattle.devices.proofs.PatchLemmas.{before-write_over}

-- what is said of a file and its steps is said of the same ones
along : (P : List ℕ → List Step → Type 0) (old new : MemDiskState) → KeepsFile old new → P old.bytes old.steps
    → P new.bytes new.steps
along P old new kept holds =
    subst (λ (file : List ℕ). P file new.steps) (sym kept.bytes)
    (subst (λ (steps : List Step). P old.bytes steps) (sym kept.steps) holds)

back : (old new : MemDiskState) → KeepsFile old new → KeepsFile new old
back old new kept = record { bytes = sym kept.bytes; steps = sym kept.steps }

-- a call that keeps the file looks at it
pub KeepsFile-looks : (old new : MemDiskState) → KeepsFile old new → Looks (mem_disk old) (mem_disk new)
KeepsFile-looks old new kept = record {
  content = ap Some kept.bytes;
  images = λ tells image. (
    along (λ file steps. MayLeave file steps image) new old (back old new kept),
    along (λ file steps. MayLeave file steps image) old new kept,
  );
  past = λ tells t image before. (
    along (λ file steps. MightHaveLeft file steps t image) new old (back old new kept),
    along (λ file steps. MightHaveLeft file steps t image) old new kept,
  );
}

pub KeepsFile-goes_on : (old new : MemDiskState) → KeepsFile old new → GoesOn (mem_disk old) (mem_disk new)
KeepsFile-goes_on old new kept = record {
  telling = refl;
  rules = refl;
  time = λ rules. record {
    later = omega (arith, ap length kept.steps);
    nothing_else = λ t image before left.
        inl (along (λ file steps. MightHaveLeft file steps t image) new old (back old new kept) left);
    keeps = λ t image before left. along (λ file steps. MightHaveLeft file steps t image) old new kept left;
  };
}

-- each image is one of before, torn from itself
pub KeepsFile-follows : (old new : MemDiskState) → KeepsFile old new → (at n : ℕ)
    → Follows (Torn at n) (MayLeave old.bytes old.steps) (MayLeave new.bytes new.steps)
KeepsFile-follows old new kept at n image left = (
  image,
  along (λ file steps. MayLeave file steps image) new old (back old new kept) left,
  Torn-refl at n image,
)

-- time goes on by a step
pub step_goes_on : (old new : MemDiskState) (step : Step) → new.steps ≡ step ∷ old.steps
    → before_step step new.bytes ≡ old.bytes → GoesOn (mem_disk old) (mem_disk new)
step_goes_on old new step steps before = record {
  telling = refl;
  rules = refl;
  time = λ rules. record {
    later = omega (arith, ap length steps);
    nothing_else = λ t image early left.
        ⊎_elim (λ here. inr (subst (λ (s : List Step). MayLeave new.bytes s image) (sym steps) here.1))
        (λ there. inl (subst (λ (file : List ℕ). MightHaveLeft file old.steps t image) before there))
        (subst (λ (s : List Step). MightHaveLeft new.bytes s t image) steps left);
    keeps = λ t image early left.
        subst (λ (s : List Step). MightHaveLeft new.bytes s t image) (sym steps)
        (inr (subst (λ (file : List ℕ). MightHaveLeft file old.steps t image) (sym before) left));
  };
}

-- a sync leaves the file and nothing else
pub Syncs-goes_on : (old new : MemDiskState) → Syncs old new → GoesOn (mem_disk old) (mem_disk new)
Syncs-goes_on old new syncs = step_goes_on old new (Sync old.calls) syncs.steps syncs.bytes

pub Syncs-synced : (old new : MemDiskState) → Syncs old new → Synced (Some new.bytes) (MayLeave new.bytes new.steps)
Syncs-synced old new syncs image = (
  λ left. subst (λ (s : List Step). MayLeave new.bytes s image) syncs.steps left,
  λ is. subst (λ (s : List Step). MayLeave new.bytes s image) (sym syncs.steps) is,
)

module _ (old new : MemDiskState) (at : ℕ) (piece : List ℕ) (done : ℕ) (within : at ≤ length old.bytes)
    (fits : done ≤ length piece) where
  -- the front of the piece tears the file in the range of the whole piece
  torn_by_front : Torn at (length piece) old.bytes (patched old.bytes at (take done piece))
  torn_by_front = Torn-patched old.bytes at (length piece) (take done piece) (omega (arith, length-take done piece))

  -- with these bytes and steps, each image of before is left torn
  pub writes_front : new.bytes ≡ patched old.bytes at (take done piece)
      → new.steps ≡ Write (write_over old.bytes old.calls at piece done) ∷ old.steps → HasPiece old new at piece
      → WritesFront old new at piece done
  writes_front bytes steps has = record {
    bytes = bytes;
    steps = steps;
    leaves_all = λ from image left torn.
        subst (λ (file : List ℕ). MayLeave file new.steps image) (sym bytes)
        (subst (λ (s : List Step). MayLeave (patched old.bytes at (take done piece)) s image) (sym steps)
        (inr (
          from,
          subst (λ (file : List ℕ). MayLeave file old.steps from)
              (sym (before-write_over old.bytes old.calls at piece done within fits)) left,
          torn,
        )));
    has_piece = has;
  }

  module _ (writes : WritesFront old new at piece done) where
    was : before_step (Write (write_over old.bytes old.calls at piece done)) new.bytes ≡ old.bytes
    was = ap (before_step (Write (write_over old.bytes old.calls at piece done))) writes.bytes
        ∙ before-write_over old.bytes old.calls at piece done within fits

    pub WritesFront-goes_on : GoesOn (mem_disk old) (mem_disk new)
    WritesFront-goes_on =
        step_goes_on old new (Write (write_over old.bytes old.calls at piece done)) writes.steps was

    pub WritesFront-torn : TearsAt (Some old.bytes) (Some new.bytes) at (length piece)
    WritesFront-torn = (
      new.bytes,
      subst (λ (file : List ℕ). Torn at (length piece) old.bytes file) (sym writes.bytes) torn_by_front,
      refl,
    )

    -- nothing else is left
    pub WritesFront-follows :
        Follows (Torn at (length piece)) (MayLeave old.bytes old.steps) (MayLeave new.bytes new.steps)
    WritesFront-follows image left =
        ⊎_elim (λ is. (
          old.bytes,
          MayLeave-file old.bytes old.steps,
          subst (λ (file : List ℕ). Torn at (length piece) old.bytes file) (sym (is ∙ writes.bytes)) torn_by_front,
        ))
        (λ torn. (torn.0, subst (λ (file : List ℕ). MayLeave file old.steps torn.0) was torn.1, torn.2))
        (subst (λ (s : List Step). MayLeave new.bytes s image) writes.steps left)
