-- What each part of code keeps.
use Rattle.std.proofs.Common.{ℕ, ◌+◌, List, [], ◌∷◌}
use Rattle.loft_tree.specs.declared.heads.Start.{Start}
use Rattle.loft_tree.specs.declared.heads.Client.{Client}
use Rattle.loft_tree.specs.declared.heads.Heads.{Heads}
use Rattle.loft_tree.specs.Fits.{Each}
use Rattle.loft_tree.specs.NamedFits.{IsName, EventHolds, SharedHolds, SignatureHolds, StartHolds, ClientHolds}
use Rattle.loft_names.proofs.HeadsLists.{Follows, each_get, follows_all, follows_head, follows_tail}
use Rattle.loft_code.specs.Fits.{StartFits, ClientFits, LinesFit, RawFits}
use Rattle.loft_code.specs.Operations.{Line}
use Rattle.loft_code.specs.Valid.{Valid}
use Rattle.loft_listing_roundtrip.specs.ThreadsNamed.{StartNamed, ClientNamed, ThreadsNamed}
use Rattle.loft_listing_roundtrip.proofs.Parts.{Part, SchedulerPart, EventPart, SharedPart, ModulePart, StartPart, ClientPart, schedulers_in, events_in, shared_in, modules_in, lines_in, starts_in, clients_in, heads_in, together}
use Rattle.loft_listing_roundtrip.proofs.Passing.{LinePasses, all_pass}
use Rattle.loft_listing_roundtrip.proofs.ModulesAgain.{AllPass}

pub record StartKeeps (h : Heads) (t : Start) : Type 0 where
  pub holds : StartHolds h t
  pub named : StartNamed h t
  pub fits : StartFits h t

pub record ClientKeeps (h : Heads) (c : Client) : Type 0 where
  pub holds : ClientHolds h c
  pub named : ClientNamed h c
  pub fits : ClientFits h c

abbrev pub PartKeeps : Heads → Part → Type 0
PartKeeps h (SchedulerPart name) = IsName name
PartKeeps h (EventPart x) = EventHolds h x
PartKeeps h (SharedPart x) = SharedHolds h x
PartKeeps h (ModulePart m lines) = SignatureHolds h m × LinesFit lines × Each (LinePasses h m) lines
PartKeeps h (StartPart t) = StartKeeps h t
PartKeeps h (ClientPart c) = ClientKeeps h c

-- the same, sort by sort, where the next module has the number k
record SortsKeep (h : Heads) (modules : List (List Line)) (k : ℕ) (ps : List Part) : Type 0 where
  schedulers : Each IsName (schedulers_in ps)
  events : Each (EventHolds h) (events_in ps)
  shared : Each (SharedHolds h) (shared_in ps)
  heads : Each (SignatureHolds h) (modules_in ps)
  lines : Each LinesFit (lines_in ps)
  starts : Each (StartKeeps h) (starts_in ps)
  clients : Each (ClientKeeps h) (clients_in ps)
  at_heads : Follows h.modules k (modules_in ps)
  at_lines : Follows modules k (lines_in ps)

module _ (h : Heads) (modules : List (List Line)) (pass : AllPass h modules) where
  each_keeps : (k : ℕ) (ps : List Part) → SortsKeep h modules k ps → Each (PartKeeps h) ps
  each_keeps k [] keep = tt
  each_keeps k (SchedulerPart name ∷ ps) keep = (
    keep.schedulers.0,
    each_keeps k ps (record {
      schedulers = keep.schedulers.1;
      events = keep.events;
      shared = keep.shared;
      heads = keep.heads;
      lines = keep.lines;
      starts = keep.starts;
      clients = keep.clients;
      at_heads = keep.at_heads;
      at_lines = keep.at_lines;
    }),
  )
  each_keeps k (EventPart x ∷ ps) keep = (
    keep.events.0,
    each_keeps k ps (record {
      schedulers = keep.schedulers;
      events = keep.events.1;
      shared = keep.shared;
      heads = keep.heads;
      lines = keep.lines;
      starts = keep.starts;
      clients = keep.clients;
      at_heads = keep.at_heads;
      at_lines = keep.at_lines;
    }),
  )
  each_keeps k (SharedPart x ∷ ps) keep = (
    keep.shared.0,
    each_keeps k ps (record {
      schedulers = keep.schedulers;
      events = keep.events;
      shared = keep.shared.1;
      heads = keep.heads;
      lines = keep.lines;
      starts = keep.starts;
      clients = keep.clients;
      at_heads = keep.at_heads;
      at_lines = keep.at_lines;
    }),
  )
  each_keeps k (ModulePart m lines ∷ ps) keep =
      let is = follows_head h.modules k m (modules_in ps) keep.at_heads in
      let has = follows_head modules k lines (lines_in ps) keep.at_lines in (
        (keep.heads.0, keep.lines.0, pass k m lines is has),
        each_keeps (k + 1) ps (record {
          schedulers = keep.schedulers;
          events = keep.events;
          shared = keep.shared;
          heads = keep.heads.1;
          lines = keep.lines.1;
          starts = keep.starts;
          clients = keep.clients;
          at_heads = follows_tail h.modules k m (modules_in ps) keep.at_heads;
          at_lines = follows_tail modules k lines (lines_in ps) keep.at_lines;
        }),
      )
  each_keeps k (StartPart t ∷ ps) keep = (
    keep.starts.0,
    each_keeps k ps (record {
      schedulers = keep.schedulers;
      events = keep.events;
      shared = keep.shared;
      heads = keep.heads;
      lines = keep.lines;
      starts = keep.starts.1;
      clients = keep.clients;
      at_heads = keep.at_heads;
      at_lines = keep.at_lines;
    }),
  )
  each_keeps k (ClientPart c ∷ ps) keep = (
    keep.clients.0,
    each_keeps k ps (record {
      schedulers = keep.schedulers;
      events = keep.events;
      shared = keep.shared;
      heads = keep.heads;
      lines = keep.lines;
      starts = keep.starts;
      clients = keep.clients.1;
      at_heads = keep.at_heads;
      at_lines = keep.at_lines;
    }),
  )

start_keeps : (h : Heads) (ts : List Start) → Each (StartHolds h) ts → Each (StartNamed h) ts → Each (StartFits h) ts → Each (StartKeeps h) ts
start_keeps h [] hold named fit = tt
start_keeps h (t ∷ ts) hold named fit = (record { holds = hold.0; named = named.0; fits = fit.0 }, start_keeps h ts hold.1 named.1 fit.1)

client_keeps : (h : Heads) (cs : List Client) → Each (ClientHolds h) cs → Each (ClientNamed h) cs → Each (ClientFits h) cs → Each (ClientKeeps h) cs
client_keeps h [] hold named fit = tt
client_keeps h (c ∷ cs) hold named fit = (record { holds = hold.0; named = named.0; fits = fit.0 }, client_keeps h cs hold.1 named.1 fit.1)

-- each module of code that keeps its limits and is valid passes
pub modules_pass : (ps : List Part) → RawFits (together ps) → Valid (together ps) → AllPass (heads_in ps) (lines_in ps)
modules_pass ps fits valid = λ k m lines is has. all_pass (together ps) valid k m lines is has (each_get LinesFit (lines_in ps) k lines fits.each has).few

pub parts_keep : (ps : List Part) → RawFits (together ps) → Valid (together ps) → ThreadsNamed (heads_in ps) → Each (PartKeeps (heads_in ps)) ps
parts_keep ps fits valid named =
    let h : Heads = heads_in ps in
    each_keeps h (lines_in ps) (modules_pass ps fits valid) 0 ps (record {
      schedulers = fits.heads.within.schedulers;
      events = fits.heads.within.events;
      shared = fits.heads.within.shared;
      heads = fits.heads.within.modules;
      lines = fits.each;
      starts = start_keeps h h.starts fits.heads.within.starts named.starts fits.heads.starts_fit;
      clients = client_keeps h h.clients fits.heads.within.clients named.clients fits.heads.clients_fit;
      at_heads = follows_all h.modules;
      at_lines = follows_all (lines_in ps);
    })
