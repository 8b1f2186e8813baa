-- A budget that is at least the room of each key that was asked leaves no slice open.
use Rattle.std.proofs.Common.{◌≡◌, ◌≢◌, ℕ, ◌<◌, ◌≤◌, true, false, IsSomeAnd, List, [], ◌∷◌, length}
use Rattle.std.proofs.Common.{slice_get, take, refl, arith}
use Rattle.std.specs.List.{All, AllZip}
use Rattle.std.proofs.lemmas.List.Elements.{All-cons, All-head, All-nil, All-tail}
use Rattle.lin_model.specs.Conditions.{PlainCondition}
use Rattle.lin_model.specs.KeyAtom.{PlainKeyAtom}
use Rattle.lin_model.specs.Lists.{All-at, Found-from}
use Rattle.slicer.specs.Slices.{PlainSlice}
use Rattle.refutation.specs.Laws.{OpenTreesAreBelowRoom}
use Rattle.refutation.specs.SearchTree.{room}
use Rattle.cert_check.specs.declared.entry.Entry.{Entry}
use Rattle.cert_check.specs.declared.reply.Reply.{Reply}
use Rattle.cert_check.specs.declared.reply.Reply.TheVariants.{Hit, Solved, Unkept, Spent}
use Rattle.cert_check.specs.Machine.{Turn}
use Rattle.cert_check.specs.Replies.{Stands, is_spent}
use Rattle.pipeline.specs.declared.answers.Verdict.{Verdict}
use Rattle.pipeline.specs.declared.answers.Verdict.TheVariants.{Sat, UnsatAtom, UnsatSlice, Unknown}
use Rattle.pipeline.specs.Answers.{IsKeyToAsk, IsRightVerdict}
use Rattle.pipeline.specs.Laws.{HasRoomWithin, SufficientDecides}

-- a slice whose key has no more room than the budget is decided
decided_here : OpenTreesAreBelowRoom → (log : List Turn) (entries : List Entry) (seat budget : ℕ) (q : PlainCondition)
    (slice : PlainSlice) (key : List PlainKeyAtom) (reply : Reply) → IsKeyToAsk q slice key
    → Stands log entries seat budget key reply → HasRoomWithin budget q slice → is_spent reply ≡ false
decided_here law log entries seat budget q slice key (Hit entry place n) is stands within = refl
decided_here law log entries seat budget q slice key (Solved entry place n saved) is stands within = refl
decided_here law log entries seat budget q slice key (Unkept entry n saved) is stands within = refl
decided_here law log entries seat budget q slice key (Spent tree n) is stands within =
    let above : budget < room key =
    law key budget tree.nodes tree.terms is.limits is.boxed stands.open_tree in
    let below : room key ≤ budget = within key is.is_key in
    absurd (omega arith)

-- and so are all
all_decided : OpenTreesAreBelowRoom → (log : List Turn) (entries : List Entry) (seat budget : ℕ) (q : PlainCondition)
    (classes : List PlainSlice) (keys : List (List PlainKeyAtom)) (replies : List Reply)
    → AllZip (IsKeyToAsk q) classes keys → AllZip (Stands log entries seat budget) keys replies
    → All (HasRoomWithin budget q) classes → All (λ reply. is_spent reply ≡ false) replies
all_decided law log entries seat budget q [] [] [] keyed stand within = All-nil (λ reply. is_spent reply ≡ false)
all_decided law log entries seat budget q [] [] (reply ∷ replies) keyed stand within = absurd stand
all_decided law log entries seat budget q [] (key ∷ keys) replies keyed stand within = absurd keyed
all_decided law log entries seat budget q (slice ∷ classes) [] replies keyed stand within = absurd keyed
all_decided law log entries seat budget q (slice ∷ classes) (key ∷ keys) [] keyed stand within = absurd stand
all_decided law log entries seat budget q (slice ∷ classes) (key ∷ keys) (reply ∷ replies) keyed stand within =
    All-cons (λ reply. is_spent reply ≡ false) reply replies
    (decided_here law log entries seat budget q slice key reply keyed.0 stand.0
    (All-head (HasRoomWithin budget q) slice classes within))
    (all_decided law log entries seat budget q classes keys replies keyed.1 stand.1
    (All-tail (HasRoomWithin budget q) slice classes within))

-- none of the replies is open
none_open : (replies : List Reply) (s : ℕ) → All (λ reply. is_spent reply ≡ false) replies
    → IsSomeAnd (slice_get replies s) (λ reply. is_spent reply ≡ true) → ⊥
none_open replies s all some =
    let found = Found-from (slice_get replies s) (λ reply. is_spent reply ≡ true) some in
    let open_one : is_spent found.value ≡ true = found.holds in
    let decided : is_spent found.value ≡ false =
    All-at (λ reply. is_spent reply ≡ false) replies s found.value all found.is in
    absurd (cc)

-- and then the verdict isn't unknown
not_unknown : (q : PlainCondition) (classes : List PlainSlice) (verdict : Verdict) (replies : List Reply)
    → IsRightVerdict q classes verdict replies → All (λ reply. is_spent reply ≡ false) replies → (s : ℕ)
    → verdict ≢ Unknown s
not_unknown q classes (Sat values) replies right all s = λ e. absurd (cc)
not_unknown q classes (UnsatAtom j) replies right all s = λ e. absurd (cc)
not_unknown q classes (UnsatSlice t) replies right all s = λ e. absurd (cc)
not_unknown q classes (Unknown t) replies right all s = λ e. none_open replies t all right.first.here

pub sufficient-decides : OpenTreesAreBelowRoom → SufficientDecides
sufficient-decides law log entries seat budget q answer right enough =
    let all =
    all_decided law log entries seat budget q (take (length answer.parts) right.classes) right.keys answer.parts
    right.keyed right.stand (enough right.classes right.are) in
    record { decided = all; told = not_unknown q right.classes answer.verdict answer.parts right.verdict all }
