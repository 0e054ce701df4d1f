-- Laws: each constant of the code is document 01's number of this name. Assumes nothing.
use Rattle.std.specs.Prelude.{◌≡◌, refl, pos}
use Rattle.plan.specs.Numbers as number
use Rattle.plan.specs.declared.numbers.TheConstants as code

-- ---- values and ticks
pub M-is : code.M ≡ pos number.M
M-is = refl

pub largest_coefficient-is : code.LARGEST_COEFFICIENT ≡ pos number.largest_coefficient
largest_coefficient-is = refl

pub largest_horizon-is : code.LARGEST_HORIZON ≡ number.largest_horizon
largest_horizon-is = refl

pub never-is : code.NEVER ≡ number.never
never-is = refl

pub largest_budget-is : code.LARGEST_BUDGET ≡ number.largest_budget
largest_budget-is = refl

pub listing_budget-is : code.LISTING_BUDGET ≡ number.listing_budget
listing_budget-is = refl

-- ---- the widths of a plan's arrays
pub integrators-is : code.INTEGRATORS ≡ number.most_integrators
integrators-is = refl

pub inputs-is : code.INPUTS ≡ number.most_inputs
inputs-is = refl

pub nodes-is : code.NODES ≡ number.most_nodes
nodes-is = refl

pub links-is : code.LINKS ≡ number.most_links
links-is = refl

pub commands-is : code.COMMANDS ≡ number.most_commands
commands-is = refl

pub sources-is : code.SOURCES ≡ number.source_width
sources-is = refl

-- ---- sections and kinds
pub section_integrators-is : code.SECTION_INTEGRATORS ≡ number.section_integrators
section_integrators-is = refl

pub section_inputs-is : code.SECTION_INPUTS ≡ number.section_inputs
section_inputs-is = refl

pub section_nodes-is : code.SECTION_NODES ≡ number.section_nodes
section_nodes-is = refl

pub section_links-is : code.SECTION_LINKS ≡ number.section_links
section_links-is = refl

pub section_commands-is : code.SECTION_COMMANDS ≡ number.section_commands
section_commands-is = refl

pub kind_difference-is : code.KIND_DIFFERENCE ≡ number.kind_difference
kind_difference-is = refl

pub kind_product-is : code.KIND_PRODUCT ≡ number.kind_product
kind_product-is = refl

pub kind_limit-is : code.KIND_LIMIT ≡ number.kind_limit
kind_limit-is = refl

pub kind_comparison-is : code.KIND_COMPARISON ≡ number.kind_comparison
kind_comparison-is = refl

-- ---- bytes
pub sections-is : code.SECTIONS ≡ number.sections
sections-is = refl

pub header_bytes-is : code.HEADER_BYTES ≡ number.header_bytes
header_bytes-is = refl

pub integrator_bytes-is : code.INTEGRATOR_BYTES ≡ number.integrator_bytes
integrator_bytes-is = refl

pub input_bytes-is : code.INPUT_BYTES ≡ number.input_bytes
input_bytes-is = refl

pub node_bytes-is : code.NODE_BYTES ≡ number.node_bytes
node_bytes-is = refl

pub link_bytes-is : code.LINK_BYTES ≡ number.link_bytes
link_bytes-is = refl

pub command_bytes-is : code.COMMAND_BYTES ≡ number.command_bytes
command_bytes-is = refl

pub longest_file-is : code.LONGEST_FILE ≡ number.longest_file
longest_file-is = refl

pub listing_input-is : code.LISTING_INPUT ≡ number.listing_input
listing_input-is = refl

pub event_bytes-is : code.EVENT_BYTES ≡ number.event_bytes
event_bytes-is = refl

-- ---- refusals and statuses
pub accepted-is : code.ACCEPTED ≡ number.acceptance
accepted-is = refl

pub refused_short-is : code.REFUSED_SHORT ≡ number.refused_short
refused_short-is = refl

pub refused_offsets-is : code.REFUSED_OFFSETS ≡ number.refused_offsets
refused_offsets-is = refl

pub refused_sizes-is : code.REFUSED_SIZES ≡ number.refused_sizes
refused_sizes-is = refl

pub refused_horizon-is : code.REFUSED_HORIZON ≡ number.refused_horizon
refused_horizon-is = refl

pub refused_integrator-is : code.REFUSED_INTEGRATOR ≡ number.refused_integrator
refused_integrator-is = refl

pub refused_input-is : code.REFUSED_INPUT ≡ number.refused_input
refused_input-is = refl

pub refused_node-is : code.REFUSED_NODE ≡ number.refused_node
refused_node-is = refl

pub refused_link-is : code.REFUSED_LINK ≡ number.refused_link
refused_link-is = refl

pub refused_command-is : code.REFUSED_COMMAND ≡ number.refused_command
refused_command-is = refl

pub refused_unsound-is : code.REFUSED_UNSOUND ≡ number.refused_unsound
refused_unsound-is = refl

pub refused_budget-is : code.REFUSED_BUDGET ≡ number.refused_budget
refused_budget-is = refl

pub refused_run_buffer-is : code.REFUSED_RUN_BUFFER ≡ number.refused_run_buffer
refused_run_buffer-is = refl

pub refused_write_buffer-is : code.REFUSED_WRITE_BUFFER ≡ number.refused_write_buffer
refused_write_buffer-is = refl

pub refused_integrator_number-is : code.REFUSED_INTEGRATOR_NUMBER ≡ number.refused_integrator_number
refused_integrator_number-is = refl

pub paused-is : code.PAUSED ≡ number.paused
paused-is = refl

pub finished-is : code.FINISHED ≡ number.finished
finished-is = refl

pub range-is : code.RANGE ≡ number.range
range-is = refl
