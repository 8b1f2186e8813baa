-- Steps of a disk in memory: how one is taken back, and what a crash within a call leaves.
use Rattle.std.proofs.Common.{◌≡◌, ◌⊎◌, inl, inr, ℕ, ◌+◌, ◌-◌, ◌^◌, ◌<◌, ◌≤◌, List, [], ◌∷◌, ◌++◌, length, take}
use Rattle.std.proofs.Common.{nat_lt, Option, None, Some, refl, sym, ap, ◌∙◌, subst, arith}
use Rattle.std.proofs.Common.{length-take}
use Rattle.std.proofs.Common.{lt-ltb, le-ltb, eq-eqb, ne_eqb, reverse}
use Rattle.std.proofs.lemmas.List.{reverse-append}
use Rattle.std.specs.Prelude.{◌==◌}
use Rattle.std.proofs.lemmas.Bool.{cases_order, cond-true, cond-false}
use Rattle.outside.specs.Crash.{patched}
use Rattle.outside.specs.TornFacts.{Torn-patched, length-patched}
use Rattle.devices.specs.PastWrite.{PastWriteState, write_over}
use Rattle.devices.specs.Steps.{call_of, before_write, before_step, MayLeave, Past, began, step_in}
use Rattle.devices.specs.Steps.{with_front, BeginsWithin, IsEarlierCall, AreOrdered, CanUndo, CanUndoAll}
use Rattle.devices.specs.MemDisk.{MayBeLeft}
use Rattle.devices.specs.MemDiskFacts.{MayLeave-file}
use Rattle.devices.specs.declared.step.Step.{Step}
use Rattle.devices.specs.declared.step.Step.TheVariants.{Write, Sync}
use Rattle.devices.proofs.PatchLemmas.{before-write_over, CanUndo-write_over}

-- steps before a call are steps before a later one
pub AreOrdered-later : (call later : ℕ) (steps : List Step) → call ≤ later → AreOrdered call steps → AreOrdered later steps
AreOrdered-later call later [] le ordered = ordered
AreOrdered-later call later (step ∷ older) le ordered = (omega (arith, ordered.0), ordered.1)

-- a write over the file, remembered behind steps that are in order and can be undone
pub pushed_write : (old new : List ℕ) (steps later : List Step) (write : PastWriteState) (call bound at : ℕ) (piece : List ℕ)
    (done : ℕ) → at ≤ length old → done ≤ length piece → IsEarlierCall call bound → AreOrdered call (reverse steps)
    → CanUndoAll old (reverse steps) → write ≡ write_over old call at piece done → new ≡ patched old at (take done piece)
    → later ≡ steps ++ Write write ∷ [] → AreOrdered bound (reverse later) × CanUndoAll new (reverse later)
pushed_write old new steps later write call bound at piece done within fits rose ordered can is written pushed =
    let top : reverse later ≡ Write (write_over old call at piece done) ∷ reverse steps =
    ap reverse pushed ∙ reverse-append steps (Write write ∷ [])
    ∙ ap (λ (w : PastWriteState). Write w ∷ reverse steps) is in (
      subst (λ (s : List Step). AreOrdered bound s) (sym top) (rose, ordered),
      subst (λ (s : List Step). CanUndoAll new s) (sym top)
          (subst (λ (file : List ℕ). CanUndoAll file (Write (write_over old call at piece done) ∷ reverse steps))
          (sym written) (
            CanUndo-write_over old call at piece done within fits,
            subst (λ (file : List ℕ). CanUndoAll file (reverse steps))
                (sym (before-write_over old call at piece done within fits)) can,
          )),
    )

module _ (file : List ℕ) (step : Step) (older : List Step) (call : ℕ) where
  -- a step of an earlier call ends the way back
  pub began-stops : call_of step < call → began file (step ∷ older) call ≡ record { file = file; steps = step ∷ older }
  began-stops earlier =
      let Stop : Past = record { file = file; steps = step ∷ older } in
      cond-true (nat_lt (call_of step) call) Stop (began (before_step step file) older call)
      (lt-ltb (call_of step) call earlier)

  -- a step of this call or a later one is taken back
  pub began-goes : call ≤ call_of step → began file (step ∷ older) call ≡ began (before_step step file) older call
  began-goes later =
      let Stop : Past = record { file = file; steps = step ∷ older } in
      cond-false (nat_lt (call_of step) call) Stop (began (before_step step file) older call)
      (le-ltb (call_of step) call later)

module _ (step : Step) (older : List Step) (call : ℕ) where
  pub step_in-here : call_of step ≡ call → step_in (step ∷ older) call ≡ Some step
  step_in-here same = cond-true (call_of step == call) (Some step) (step_in older call) (eq-eqb (call_of step) call same)

  pub step_in-behind : (call_of step ≡ call → ⊥) → step_in (step ∷ older) call ≡ step_in older call
  step_in-behind other =
      cond-false (call_of step == call) (Some step) (step_in older call) (ne_eqb (call_of step) call other)

-- no step of calls before this one is taken back
pub began-ordered : (file : List ℕ) (steps : List Step) (call : ℕ) → call < 2 ^ 64 - 1 → AreOrdered call steps
    → began file steps call ≡ record { file = file; steps = steps }
began-ordered file [] call few ordered = refl
began-ordered file (step ∷ older) call few ordered = began-stops file step older call (omega (arith, ordered.0))

-- calls before this one did not take its step
pub step_in-ordered : (steps : List Step) (call : ℕ) → call < 2 ^ 64 - 1 → AreOrdered call steps
    → step_in steps call ≡ None
step_in-ordered [] call few ordered = refl
step_in-ordered (step ∷ older) call few ordered =
    let earlier : call_of step < call = omega (arith, ordered.0) in
    step_in-behind step older call (λ same. omega arith)
    ∙ step_in-ordered older call few (AreOrdered-later (call_of step) call older (omega arith) ordered.1)

-- the front of the piece of a step's call, put in place as the call began, is left by a crash after the step
front_left : (file : List ℕ) (step : Step) (older : List Step) (kept : ℕ)
    → MayLeave file (step ∷ older) (with_front (Some step) kept (before_step step file))
front_left file (Sync call) older kept = refl
front_left file (Write write) older kept = inr (
  before_write write file,
  MayLeave-file (before_write write file) older,
  Torn-patched (before_write write file) write.at (length write.piece) (take kept write.piece)
      (omega (arith, length-take kept write.piece)),
)

abbrev FrontIsLeft : ℕ → Option Step → Past → Past → Type 0
FrontIsLeft kept step began ended =
    MayBeLeft began (with_front step kept began.file) ⊎ MayBeLeft ended (with_front step kept began.file)

-- what is left of the same step and the same moments
front_alike : (kept : ℕ) (step step' : Option Step) (p p' q q' : Past) → step ≡ step' → p ≡ p' → q ≡ q'
    → FrontIsLeft kept step' p' q' → FrontIsLeft kept step p q
front_alike kept step step' p p' q q' same began ended left =
    subst (λ (s : Option Step). FrontIsLeft kept s p q) (sym same)
    (subst (λ (b : Past). FrontIsLeft kept step' b q) (sym began)
    (subst (λ (e : Past). FrontIsLeft kept step' p' e) (sym ended) left))

-- the front of a call's piece, put in place as the call began, is left by a crash as the call began or as it ended
pub front_left_within : (file : List ℕ) (steps : List Step) (bound call kept : ℕ) → AreOrdered bound steps
    → call < 2 ^ 64 - 1 → FrontIsLeft kept (step_in steps call) (began file steps call) (began file steps (call + 1))
front_left_within file [] bound call kept ordered few = inl refl
front_left_within file (step ∷ older) bound call kept ordered few =
    elim (cases_order (call_of step) call) [
      | inl same ↦ front_alike kept _ (Some step) _ (record { file = before_step step file; steps = older }) _
          (record { file = file; steps = step ∷ older }) (step_in-here step older call same)
          (began-goes file step older call (omega arith)
          ∙ began-ordered (before_step step file) older call few
          (subst (λ (n : ℕ). AreOrdered n older) same ordered.1))
          (began-stops file step older (call + 1) (omega arith)) (inr (front_left file step older kept))
      | inr (inl earlier) ↦ front_alike kept _ None _ (record { file = file; steps = step ∷ older }) _ _
          (step_in-ordered (step ∷ older) call few (omega arith, ordered.1)) (began-stops file step older call earlier)
          refl (inl (MayLeave-file file (step ∷ older)))
      | inr (inr later) ↦ front_alike kept _ (step_in older call) _ (began (before_step step file) older call) _
          (began (before_step step file) older (call + 1)) (step_in-behind step older call (λ same. omega arith))
          (began-goes file step older call (omega arith)) (began-goes file step older (call + 1) (omega arith))
          (front_left_within (before_step step file) older (call_of step) call kept ordered.1 few)
    ]

-- before a step that can be undone the file reached as far as the step began
before_begins : (file : List ℕ) (step : Step) → CanUndo step file → BeginsWithin (Some step) (before_step step file)
before_begins file (Sync call) can = tt
before_begins file (Write write) can =
    omega (
      arith,
      can.0,
      can.1,
      length-take write.len (patched file write.at write.overwritten),
      length-patched file write.at write.overwritten,
    )

begins_alike : (step step' : Option Step) (p p' : Past) → step ≡ step' → p ≡ p' → BeginsWithin step' p'.file
    → BeginsWithin step p.file
begins_alike step step' p p' same began within =
    subst (λ (s : Option Step). BeginsWithin s p.file) (sym same)
    (subst (λ (b : Past). BeginsWithin step' b.file) (sym began) within)

-- a write began within the file as its call began
pub begins_within : (file : List ℕ) (steps : List Step) (bound call : ℕ) → AreOrdered bound steps → CanUndoAll file steps
    → call < 2 ^ 64 - 1 → BeginsWithin (step_in steps call) (began file steps call).file
begins_within file [] bound call ordered can few = tt
begins_within file (step ∷ older) bound call ordered can few =
    elim (cases_order (call_of step) call) [
      | inl same ↦ begins_alike _ (Some step) _ (record { file = before_step step file; steps = older })
          (step_in-here step older call same)
          (began-goes file step older call (omega arith)
          ∙ began-ordered (before_step step file) older call few
          (subst (λ (n : ℕ). AreOrdered n older) same ordered.1))
          (before_begins file step can.0)
      | inr (inl earlier) ↦ begins_alike _ None (began file (step ∷ older) call) _
          (step_in-ordered (step ∷ older) call few (omega arith, ordered.1)) refl tt
      | inr (inr later) ↦ begins_alike _ (step_in older call) _ (began (before_step step file) older call)
          (step_in-behind step older call (λ same. omega arith)) (began-goes file step older call (omega arith))
          (begins_within (before_step step file) older (call_of step) call ordered.1 can.1 few)
    ]

-- what is left within a call, of an image that is the front of its piece, put in place as the call began
pub image_left : (file image : List ℕ) (steps : List Step) (bound call kept : ℕ) → AreOrdered bound steps
    → call < 2 ^ 64 - 1 → image ≡ with_front (step_in steps call) kept (began file steps call).file
    → MayBeLeft (began file steps call) image ⊎ MayBeLeft (began file steps (call + 1)) image
image_left file image steps bound call kept ordered few is =
    subst (λ (i : List ℕ). MayBeLeft (began file steps call) i ⊎ MayBeLeft (began file steps (call + 1)) i) (sym is)
    (front_left_within file steps bound call kept ordered few)
