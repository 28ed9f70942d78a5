use Rattle.std.proofs.Common.{◌≡◌, ◌∙◌, ℕ, List, Result, inl, inr, sym, ap, subst}
use Rattle.router.specs.BusError.{BusError}
use Rattle.router.specs.NameCall.TheVariants as calls
use Rattle.router.specs.Reply.{Reply}
use Rattle.peers.specs.HeldLists.{holdings_of}
use Rattle.peers.specs.Holdings.{HoldingsState, after_request}
use Rattle.peers.specs.NameRows.{ChangesName}
use Rattle.peers.specs.OwnerChanges.{ChangesOwner}
use Rattle.peers.specs.PeerState.{PeerState}
use Rattle.peers.specs.Shares.{WithinShare, WithinMemory, name_limit}
use Rattle.peers.proofs.AskedNames.{name_read}
use Rattle.peers.proofs.OwnerChanging.{changed_aside}
use Rattle.peers.proofs.Sharing.{kept_out, within_share}
use Rattle.peers.proofs.peer.Peer.request_name.Goals as goal

pub returns-clause-row : goal.returns-clause-row
returns-clause-row g c =
    let name : c.in-Ok.name ≡ c.args.name.now = (name_read c.args.name.now c.in-Ok.name (sym c.read.ensures ∙ c.in-Ok.is)).0 in
    let v : PeerState g.row.M.Denot = c.args.self.now in
    let u : PeerState g.row.M.Denot = record { pass = c.self.inside.pass; own = c.self.inside.own; serial = c.self.inside.serials; identity = c.self.inside.identity; holdings = holdings_of c.replace-holdings.new.dest } in
    let made = c.change_owner-asked in
    let answered = c.answer_named-answered in
    let change : List ℕ → Result Reply BusError → HoldingsState → HoldingsState = after_request in
    let W : List ℕ → Type 0 = λ n. WithinShare (name_limit c.args.context.now.shares n v.holdings) c.args.request (WithinMemory c.args.request (ChangesName g.M.Mailbox.outbox_of c.args.request (calls.Request n c.args.flags) (change n) v c.and.result answered.new.self) v c.and.result answered.new.self) v c.and.result answered.new.self in
    let N : List ℕ → Type 0 = λ n. ChangesOwner g.M.Mailbox.outbox_of (calls.Request n c.args.flags) u c.deref_mut-control.result.now made.result.0 made.result.1 made.new.self made.new.control in
    let P : PeerState g.row.M.Denot → Type 0 = λ s. ChangesOwner g.M.Mailbox.outbox_of (calls.Request c.in-Ok.name c.args.flags) u c.deref_mut-control.result.now made.result.0 made.result.1 s made.new.control in
    let held = c.note_request.ensures ∙ ap (change c.in-Ok.name made.result.0) (ap holdings_of c.replace-holdings.ensures.value ∙ (c.admit_name.ensures.same ∙ ap (λ (s : PeerState g.row.M.Denot). s.holdings) c.self.view_is)) in
    inr (subst W name (within_share (name_limit c.args.context.now.shares c.in-Ok.name) c.args.request _ _ v answered.new.self c.and.result c.self.view_is c.in_default-admit_name.ensures.within
    (inl (changed_aside g.M.Mailbox.outbox_of c.args.request (calls.Request c.in-Ok.name c.args.flags) (change c.in-Ok.name) u v _ answered.new.self c.deref_mut-control.result.now made.new.control made.result.0 (holdings_of c.note_request.new.self) made.result.1
    answered.result c.and.result (ap (λ (s : PeerState g.row.M.Denot). record s { holdings = v.holdings }) c.self.view_is) (subst P (sym c.self-2.view_is) (subst N c.copy.ensures made.ensures.changes)) held answered.ensures.row c.and.ensures))))

pub returns-in-Err-clause-row : goal.returns-in-Err-clause-row
returns-in-Err-clause-row g c =
    let name : c.in-Ok.name ≡ c.args.name.now = (name_read c.args.name.now c.in-Ok.name (sym c.read.ensures ∙ c.in-Ok.is)).0 in
    let v : PeerState g.row.M.Denot = c.args.self.now in
    let refused = c.refuse-in-Err in
    let D : List ℕ → Type 0 = λ n. ChangesName g.M.Mailbox.outbox_of c.args.request (calls.Request n c.args.flags) (after_request n) v refused.result refused.new.self in
    let W : List ℕ → Type 0 = λ n. WithinShare (name_limit c.args.context.now.shares n v.holdings) c.args.request (WithinMemory c.args.request (D n) v refused.result refused.new.self) v refused.result refused.new.self in
    inr (subst W name (kept_out (name_limit c.args.context.now.shares c.in-Ok.name) c.args.request (D c.in-Ok.name) c.in-Err.why _ v refused.new.self (holdings_of c.admit_name.new.self) refused.result c.self.view_is
    c.admit_name.ensures.same c.in-Err.ensures.within refused.ensures.answer))
