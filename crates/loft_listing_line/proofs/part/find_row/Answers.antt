use Rattle.std.proofs.Common.{◌≡◌, sym, ap, rules, Some, ◌∙◌}
use Rattle.std.specs.Option.{option_map}
use Rattle.loft_listing_line.specs.Rows.{bare_line, line_text}
use Rattle.loft_listing_line.specs.RowsFit.{ListingLineFits}
use Rattle.loft_listing_line.specs.RowView.{row_of}
use Rattle.loft_listing_line.specs.declared.row.Row.TheVariants as row
use Rattle.loft_listing_line.proofs.FoundRows.{by_item, by_head, by_local, by_client, by_order, item_row, head_row, local_row, operation_row, client_row, order_row}
use Rattle.loft_listing_line.proofs.part.find_row.Goals as goal

pub returns-in_ok-head-in-Head-clause-found : goal.returns-in_ok-head-in-Head-clause-found
returns-in_ok-head-in-Head-clause-found c x fits same short =
    by_head (λ l. ListingLineFits l → c.args.line.now ≡ line_text l → option_map (λ r. bare_line (row_of r)) c.map-in-Head.result ≡ Some (bare_line l)) x
    (c.in-Head.ensures x (record { fits = fits; written = same }))
    (λ h ok is.
    let made : c.map-in-Head.result ≡ option_map row.Head c.in_ok-head-in-Head.field-0 = search rules in
    ap (option_map (λ r. bare_line (row_of r))) made ∙ head_row c.in_ok-head-in-Head.field-0 h (c.in_ok-head-in-Head.ensures.found h ok is short)) fits same

pub returns-in_ok-local-in-Local-clause-found : goal.returns-in_ok-local-in-Local-clause-found
returns-in_ok-local-in-Local-clause-found c x fits same short =
    by_local (λ l. ListingLineFits l → c.args.line.now ≡ line_text l → option_map (λ r. bare_line (row_of r)) c.map-in-Local.result ≡ Some (bare_line l)) x
    (c.in-Local.ensures x (record { fits = fits; written = same }))
    (λ v ok is.
    let made : c.map-in-Local.result ≡ option_map row.Local c.in_ok-local-in-Local.field-0 = search rules in
    ap (option_map (λ r. bare_line (row_of r))) made ∙ local_row c.in_ok-local-in-Local.field-0 v (c.in_ok-local-in-Local.ensures.found v ok is short)) fits same

pub returns-in_ok-item-in-Item-clause-found : goal.returns-in_ok-item-in-Item-clause-found
returns-in_ok-item-in-Item-clause-found c x fits same short =
    by_item (λ l. ListingLineFits l → c.args.line.now ≡ line_text l → option_map (λ r. bare_line (row_of r)) c.map.result ≡ Some (bare_line l)) x
    (c.in-Item.ensures x (record { fits = fits; written = same }))
    (λ d ok is.
    let made : c.map.result ≡ option_map row.Item c.in_ok-item-in-Item.field-0 = search rules in
    ap (option_map (λ r. bare_line (row_of r))) made ∙ item_row c.in_ok-item-in-Item.field-0 d (c.in_ok-item-in-Item.ensures.found d ok is short)) fits same

pub returns-in_ok-client-in-Client-clause-found : goal.returns-in_ok-client-in-Client-clause-found
returns-in_ok-client-in-Client-clause-found c x fits same short =
    by_client (λ l. ListingLineFits l → c.args.line.now ≡ line_text l → option_map (λ r. bare_line (row_of r)) c.map-in-Client.result ≡ Some (bare_line l)) x
    (c.in-Client.ensures x (record { fits = fits; written = same }))
    (λ n ok is.
    let made : c.map-in-Client.result ≡ option_map row.Client c.in_ok-client-in-Client.field-0 = search rules in
    ap (option_map (λ r. bare_line (row_of r))) made ∙ client_row c.in_ok-client-in-Client.field-0 n (c.in_ok-client-in-Client.ensures.found n ok is short)) fits same

pub returns-in_ok-order-in-Order-clause-found : goal.returns-in_ok-order-in-Order-clause-found
returns-in_ok-order-in-Order-clause-found c x fits same short =
    by_order (λ l. ListingLineFits l → c.args.line.now ≡ line_text l → option_map (λ r. bare_line (row_of r)) c.map-in-Order.result ≡ Some (bare_line l)) x
    (c.in-Order.ensures x (record { fits = fits; written = same }))
    (λ y ok is.
    let made : c.map-in-Order.result ≡ option_map row.Order c.in_ok-order-in-Order.field-0 = search rules in
    ap (option_map (λ r. bare_line (row_of r))) made ∙ order_row c.in_ok-order-in-Order.field-0 y (c.in_ok-order-in-Order.ensures.found y ok is short)) fits same

pub returns-in_ok-operation-in-Operation-clause-found : goal.returns-in_ok-operation-in-Operation-clause-found
returns-in_ok-operation-in-Operation-clause-found c x fits same short =
    let made : c.map-in-Operation.result ≡ option_map row.Operation c.in_ok-operation-in-Operation.field-0 = search rules in
    ap (option_map (λ r. bare_line (row_of r))) made ∙ operation_row c.in_ok-operation-in-Operation.field-0
    ∙ c.in_ok-operation-in-Operation.ensures.found x (sym (c.in-Operation.ensures x (record { fits = fits; written = same })), fits) same short
