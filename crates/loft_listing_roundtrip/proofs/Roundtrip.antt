-- What is written of code is a listing of the code.
use Rattle.std.proofs.Common.{◌≡◌, List, ◌∷◌, ◌++◌, sym, subst, ap, ◌∙◌}
use Rattle.std.specs.List.{flat_map}
use Rattle.loft_tree.specs.declared.heads.Heads.{Heads}
use Rattle.loft_tree.specs.Fits.{Each}
use Rattle.loft_scopes.specs.Scopes.{Declared, declared}
use Rattle.loft_names.proofs.HeadsLists.{follows_all}
use Rattle.loft_code.specs.Fits.{RawFits}
use Rattle.loft_code.specs.Operations.{Automata}
use Rattle.loft_code.specs.Valid.{Valid}
use Rattle.loft_listing_line.specs.Rows.{ListingLine, Title, line_text}
use Rattle.loft_listing_line.specs.RowsFit.{ListingLineFits}
use Rattle.loft_listing_draft.specs.Drafts.{Draft, DraftFits, draft_lines, item_lines, source_of}
use Rattle.loft_listing_draft.specs.Lined.{lines_at}
use Rattle.loft_listing_reader.specs.Lists.{Lists}
use Rattle.loft_listing.specs.Lines.{listing_lines}
use Rattle.loft_listing.specs.Listing.{listing_text}
use Rattle.loft_listing_roundtrip.specs.ThreadsNamed.{ThreadsNamed}
use Rattle.loft_listing_roundtrip.proofs.Parts.{Part, heads_in, lines_in, parts_of, together}
use Rattle.loft_listing_roundtrip.proofs.Collecting.{put_together}
use Rattle.loft_listing_roundtrip.proofs.Saying.{first_offset, part_lines, said}
use Rattle.loft_listing_roundtrip.proofs.HeadsAgain.{heads_again}
use Rattle.loft_listing_roundtrip.proofs.ModulesAgain.{modules_again}
use Rattle.loft_listing_roundtrip.proofs.PartsHold.{PartKeeps, modules_pass, parts_keep}
use Rattle.loft_listing_roundtrip.proofs.LinesFit.{lines_fit}
use Rattle.loft_listing_roundtrip.proofs.LinesSame.{all_said, items_lines}
use Rattle.loft_listing_roundtrip.proofs.Lining.{lines_at_fit, lines_at_text, lines_twice}
use Rattle.loft_listing_roundtrip.proofs.SourceSaid.{items_hold, none_wrong, says, source_fits}

of_parts : (ps : List Part) → listing_lines (together ps) ≡ Title ∷ flat_map (part_lines (heads_in ps)) ps → RawFits (together ps) → Valid (together ps) → ThreadsNamed (heads_in ps)
    → Lists (listing_text (together ps)) (together ps)
of_parts ps lines fits valid named =
    let h : Heads = heads_in ps in
    let d : Draft = said h first_offset ps in
    let ds : List Declared = declared (source_of d) in
    let keep : Each (PartKeeps h) ps = parts_keep ps fits valid named in
    let pass = modules_pass ps fits valid in
    let say = says first_offset ps fits.heads in
    let own : List ListingLine = flat_map (part_lines h) ps in
    let fit : Each ListingLineFits own = lines_fit h fits.heads ps keep in
    let same : flat_map item_lines d ≡ lines_at first_offset own = all_said h first_offset ps in
    let texts : flat_map line_text (draft_lines d) ≡ listing_text (together ps) =
    ap (λ ls. line_text Title ++ flat_map line_text ls) same ∙ ap (λ t. line_text Title ++ t) (lines_at_text first_offset own fit) ∙ ap (flat_map line_text) (sym lines) in
    let draft_fits : DraftFits d = record {
      source = source_fits first_offset ps fits.heads keep;
      items = items_hold h first_offset ps keep;
      lines = (tt, subst (Each ListingLineFits) (sym same) (lines_at_fit first_offset own fit));
      lined = ap (λ ls. Title ∷ ls) (ap (lines_at first_offset) same ∙ lines_twice first_offset own fit ∙ sym same);
    } in (
      d,
      record {
        said = record { fits = draft_fits; written = sym texts };
        right = none_wrong first_offset ps fits.heads keep pass;
        numbers = (λ i. record {
          heads = sym (heads_again ds ps say fits.heads named first_offset) i;
          modules = sym (modules_again ds h say (lines_in ps) pass 0 first_offset ps (follows_all h.modules) (follows_all (lines_in ps))) i;
        });
      },
    )

pub written_is_listing : (c : Automata) → RawFits c → Valid c → ThreadsNamed c.heads → Lists (listing_text c) c
written_is_listing c fits =
    let ps : List Part = parts_of c in
    let lines : listing_lines c ≡ Title ∷ flat_map (part_lines c.heads) ps = ap (λ ls. Title ∷ ls) (items_lines c.heads c.modules c.heads.items) in
    subst (λ (x : Automata). listing_lines x ≡ Title ∷ flat_map (part_lines x.heads) ps → RawFits x → Valid x → ThreadsNamed x.heads → Lists (listing_text x) x)
    (put_together c fits) (of_parts ps) lines fits
