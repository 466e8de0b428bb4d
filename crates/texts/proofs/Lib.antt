mod Cuts
mod OneKind
mod Parts
mod Times
